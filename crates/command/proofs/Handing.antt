-- What is handed in with a frame: the order of its refusals, and what is known where there is none.
-- Assumes nothing.
use Rattle.std.specs.Prelude.{Ok, Err, if◌then◌else◌}
use mathlib.Core.Path.{◌≡◌, refl, sym, ap, ◌∙◌}
use mathlib.Core.Bool.{true, false, not}
use mathlib.Core.List.{List}
use Prim.Native.Nat.{ℕ, ◌≤◌}
use borrow.Author.Tests.{leb-true}
use lib.ListN.{length}
use Rattle.words.specs.Words.{◌≤?◌, ◌and◌, Told, refused, gives, given◌then◌}
use Rattle.frame.specs.Frame.{checked_of}
use Rattle.frame.specs.Promises.{Verdict, refusal_of, told_verdict, bytes_if}
use Rattle.frame.specs.declared.Parts.{Parts}
use Rattle.frame.specs.declared.BadFrame.{BadFrame}
use Rattle.words.proofs.Words.{past_refusal, refused_gives, refused_same, gives_same, not_flips, both_true}
use Rattle.claim.specs.Claim.{keeps_rules, holds_list}
use Rattle.claim.specs.Promises.{is_sound}
use Rattle.claim.specs.declared.Claim.{Claim}
use Rattle.claim.proofs.Calls.{given_past, sound_well}
use Rattle.command.specs.Hosted.{most_entries, is_well_formed}
use Rattle.command.specs.Handed.{handed_in}
use Rattle.command.specs.Private.{handed_of}
use Rattle.command.specs.declared.Host.{Host}
use Rattle.command.specs.declared.handed.Handed.{Handed}

-- a well formed list is no longer than its array
pub well_few : (h : Host) → is_well_formed h ≡ true → h.count ≤ most_entries
unfolding is_well_formed
well_few h w = leb-true _ _ (both_true (h.count ≤? most_entries) _ w).0

module _ (id : ℕ) (bytes : List ℕ) (h : Host) (c : Claim) where
  -- step by step

  pub handed_broken : keeps_rules c ≡ false → handed_in id bytes h c ≡ refused 2
  unfolding handed_in
  handed_broken k = rw k

  pub handed_bad : (v : Verdict) (why : BadFrame) → keeps_rules c ≡ true → told_verdict v ≡ checked_of id (length bytes) → v ≡ Err why
      → handed_in id bytes h c ≡ refused (refusal_of why)
  unfolding handed_in
  handed_bad v why k t e =
      let b : checked_of id (length bytes) ≡ refused (refusal_of why) = sym t ∙ ap told_verdict e in
      rw (k, b)

  pub handed_lists : (parts : Parts) → keeps_rules c ≡ true → checked_of id (length bytes) ≡ gives parts
      → handed_in id bytes h c ≡ (if not (holds_list c and is_well_formed h) then refused 16 else gives parts)
  unfolding handed_in
  handed_lists parts k e = rw (k, e)

  -- where the frame is sound

  module _ (v : Verdict) (parts : Parts) (k : keeps_rules c ≡ true) (t : told_verdict v ≡ checked_of id (length bytes))
      (e : v ≡ Ok parts) where
    sound_frame : checked_of id (length bytes) ≡ gives parts
    sound_frame = sym t ∙ ap told_verdict e

    pub handed_ill : holds_list c ≡ false → handed_in id bytes h c ≡ refused 16
    handed_ill l = handed_lists parts k sound_frame ∙ rw l

    pub handed_unhosted : holds_list c ≡ true → is_well_formed h ≡ false → handed_in id bytes h c ≡ refused 16
    handed_unhosted l w = handed_lists parts k sound_frame ∙ rw (l, w)

    pub handed_given : (eight : List ℕ) → eight ≡ bytes_if (checked_of id (length bytes)) bytes
        → holds_list c ≡ true → is_well_formed h ≡ true
        → gives (record { parts = parts; bytes = eight }) ≡ handed_of id bytes h c
    unfolding handed_of
    handed_given eight b l w =
        let g : eight ≡ bytes = b ∙ ap (λ (x : Told Parts). bytes_if x bytes) sound_frame in
        let n : handed_in id bytes h c ≡ gives parts = handed_lists parts k sound_frame ∙ rw (l, w) in
        rw n (ap (λ (bs : List ℕ). gives (record { parts = parts; bytes = bs })) g)

  -- what is handed in is refused as it is, and given with its bytes

  pub handed_refused : (n : ℕ) → handed_in id bytes h c ≡ refused n → refused n ≡ handed_of id bytes h c
  unfolding handed_of
  handed_refused n e = rw e

  -- what is handed in and not refused
  pub record Fine (parts : Parts) : Type 0 where
    pub claim : is_sound c ≡ true
    pub list : is_well_formed h ≡ true
    pub frame : checked_of id (length bytes) ≡ gives parts

  pub handed_fine : (parts : Parts) → handed_in id bytes h c ≡ gives parts → Fine parts
  unfolding handed_in
  handed_fine parts e =
      let r₂ = past_refusal (not (keeps_rules c)) 2 _ e in
      given_past (checked_of id (length bytes)) (λ p. if not (holds_list c and is_well_formed h) then refused 16 else gives p) r₂.1
      (λ p f m.
      let r₁₆ = past_refusal (not (holds_list c and is_well_formed h)) 16 (gives p) m in
      let b = both_true (holds_list c) (is_well_formed h) (not_flips _ r₁₆.0) in
      record { claim = (sound_well c (not_flips _ r₂.0) b.0).1; list = b.1; frame = f ∙ r₁₆.1 })

  -- and read back

  pub handing_refused : (n : ℕ) → refused n ≡ handed_of id bytes h c → handed_in id bytes h c ≡ refused n
  unfolding handed_of
  handing_refused n e = by_told (handed_in id bytes h c) refl e
    where
      by_told : (t : Told Parts) → handed_in id bytes h c ≡ t
          → ◌≡◌ {A = Told Handed} (refused n) (given t then λ parts. gives (record { parts = parts; bytes = bytes }))
          → handed_in id bytes h c ≡ refused n
      by_told (refused m) f g = f ∙ ap refused (sym (refused_same g))
      by_told (gives parts) f g = refused_gives g

  pub handing_given : (handed : Handed) → gives handed ≡ handed_of id bytes h c
      → (handed_in id bytes h c ≡ gives handed.parts) × (handed.bytes ≡ bytes)
  unfolding handed_of
  handing_given handed e =
      given_past (handed_in id bytes h c) (λ parts. gives (record { parts = parts; bytes = bytes })) (sym e)
      (λ parts f g.
      let s : ◌≡◌ {A = Handed} (record { parts = parts; bytes = bytes }) handed = gives_same g in
      (f ∙ ap (λ (x : Handed). gives x.parts) s, sym (ap (λ (x : Handed). x.bytes) s)))
