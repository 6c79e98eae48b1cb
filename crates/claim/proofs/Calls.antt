-- What the answers of the calls show of the state that was handed in, and of the one that is handed back.
-- Assumes nothing.
use Rattle.std.specs.Prelude.{Ok, Err}
use mathlib.Core.Path.{◌≡◌, refl, sym, ap, ◌∙◌}
use mathlib.Core.Bool.{true, false, not}
use mathlib.Core.List.{List}
use Prim.Native.Nat.{ℕ, ◌≤◌, ◌<◌}
use native.Mathlib.Omega.{arith}
use borrow.Author.Tests.{eq-eqb, ne_eqb}
use lib.ListN.{length}
use Rattle.words.specs.Words.{◌=?◌, Told, refused, gives, given◌then◌, Done, done}
use Rattle.frame.specs.Bytes.{number_of}
use Rattle.frame.specs.Frame.{checked_of}
use Rattle.frame.specs.Standard.{claim_dgn, no_frame}
use Rattle.frame.specs.Promises.{Verdict, told_verdict, refusal_of, bytes_if}
use Rattle.frame.specs.declared.Parts.{Parts}
use Rattle.frame.specs.declared.BadFrame.{BadFrame}
use Rattle.words.proofs.Words.{past_refusal, refused_gives, gives_same, not_flips, by_test}
use Rattle.claim.specs.Candidates.{padded}
use Rattle.claim.specs.Claim.{keeps_rules, holds_list, claim_id, claim_bytes, begun, Outcome, nothing_to_do, own_name}
use Rattle.claim.specs.Claim.{repeated, moved, fell_silent, outcome_of, after}
use Rattle.claim.specs.Promises.{Hearing}
use Rattle.claim.specs.Promises.{Hear, told_hearing, meets_frame, heard_of, after_told, is_sent_told, is_sound, sound_of}
use Rattle.claim.specs.Private.{met_of}
use Rattle.claim.specs.declared.Claim.{Claim}
use Rattle.claim.specs.declared.Heard.{Heard}
use Rattle.claim.proofs.Sound.{Rules, rules_of, count_bounded, Holds, holds_of}
use Rattle.claim.proofs.Outcomes.{rules_heard}

-- what is given in the end was given before
pub given_past : {A B P : Type 0} (t : Told A) (f : A → Told B) {b : B} → (given t then f) ≡ gives b
    → ((a : A) → t ≡ gives a → f a ≡ gives b → P) → P
given_past (refused n) f e k = refused_gives e
given_past (gives a) f e k = k a refl e

-- 2, then 16, then what a sound state gives

pub sound_broken : (c : Claim) → keeps_rules c ≡ false → (sound_of c ≡ refused 2) × (is_sound c ≡ false)
unfolding sound_of
sound_broken c k = (rw k, rw k)

pub sound_ill : (c : Claim) → keeps_rules c ≡ true → holds_list c ≡ false → (sound_of c ≡ refused 16) × (is_sound c ≡ false)
unfolding sound_of
sound_ill c k h = (rw (k, h), rw (k, h))

pub sound_well : (c : Claim) → keeps_rules c ≡ true → holds_list c ≡ true → (sound_of c ≡ gives done) × (is_sound c ≡ true)
unfolding sound_of
sound_well c k h = (rw (k, h), rw (k, h))

-- and read back from what is told

pub sound_given : (c : Claim) (d : Done) → sound_of c ≡ gives d
    → (keeps_rules c ≡ true) × (holds_list c ≡ true) × (is_sound c ≡ true)
unfolding sound_of
sound_given c d e =
    let a = past_refusal (not (keeps_rules c)) 2 _ e in
    let b = past_refusal (not (holds_list c)) 16 _ a.1 in
    let k = not_flips _ a.0 in
    let h = not_flips _ b.0 in
    (k, h, (sound_well c k h).1)

pub sound_refused : (c : Claim) (n : ℕ) → sound_of c ≡ refused n → is_sound c ≡ false
sound_refused c n e =
    by_test (keeps_rules c)
    (λ k. by_test (holds_list c)
    (λ h. refused_gives (sym e ∙ (sound_well c k h).0))
    (λ h. (sound_ill c k h).1))
    (λ k. (sound_broken c k).1)

-- a position of a sound state is a place of its array
pub in_array : (c : Claim) → keeps_rules c ≡ true → holds_list c ≡ true → c.position < 16
in_array c k h = let r = rules_of c k in let l = holds_of c h in omega arith

-- what hear answers, step by step

pub heard_broken : (id : ℕ) (bytes : List ℕ) (c : Claim) → keeps_rules c ≡ false → heard_of id bytes c ≡ refused 2
unfolding heard_of
heard_broken id bytes c k = rw k

pub heard_past : (id : ℕ) (bytes : List ℕ) (c : Claim) → keeps_rules c ≡ true
    → heard_of id bytes c ≡ (given checked_of id (length bytes) then λ parts. met_of parts bytes c)
unfolding heard_of met_of
heard_past id bytes c k = rw k

pub met_ill : (parts : Parts) (bytes : List ℕ) (c : Claim) → holds_list c ≡ false → met_of parts bytes c ≡ refused 16
unfolding met_of
met_ill parts bytes c h = rw h

pub met_other : (parts : Parts) (bytes : List ℕ) (c : Claim) → holds_list c ≡ true → (parts.dgn ≡ claim_dgn → ⊥)
    → met_of parts bytes c ≡ gives nothing_to_do
unfolding met_of meets_frame
met_other parts bytes c h d = rw (h, ne_eqb _ _ d)

pub met_claim : (parts : Parts) (bytes : List ℕ) (c : Claim) → holds_list c ≡ true → parts.dgn ≡ claim_dgn
    → met_of parts bytes c ≡ gives (outcome_of parts.source (number_of bytes) c)
unfolding met_of meets_frame
met_claim parts bytes c h d = rw (h, eq-eqb _ _ d)

-- a frame is given by a sound state only
pub heard_before : (id : ℕ) (bytes : List ℕ) (c : Claim) (o : Outcome) → heard_of id bytes c ≡ gives o
    → (keeps_rules c ≡ true) × (holds_list c ≡ true)
unfolding heard_of met_of
heard_before id bytes c o e =
    let r₂ = past_refusal (not (keeps_rules c)) 2 _ e in
    given_past (checked_of id (length bytes)) (λ parts. met_of parts bytes c) r₂.1
    (λ parts p m. (not_flips _ r₂.0, not_flips _ (past_refusal (not (holds_list c)) 16 _ m).0))

-- a frame that is given leaves a state that keeps its rules, with the list that it had

rules_met : (parts : Parts) (bytes : List ℕ) (c : Claim) → Rules c → Rules (after (meets_frame parts bytes c) c)
unfolding meets_frame after
rules_met parts bytes c k =
    by_test (parts.dgn =? claim_dgn)
    (λ d. rw d (rules_heard parts.source (number_of bytes) c k))
    (λ d. rw d k)

pub heard_given : (id : ℕ) (bytes : List ℕ) (c : Claim) (o : Outcome) → heard_of id bytes c ≡ gives o
    → Rules (after o c) × Holds c
unfolding heard_of met_of
heard_given id bytes c o e =
    let r₂ = past_refusal (not (keeps_rules c)) 2 _ e in
    given_past (checked_of id (length bytes)) (λ parts. met_of parts bytes c) r₂.1
    (λ parts p m.
    let r₁₆ = past_refusal (not (holds_list c)) 16 _ m in
    let k = rules_met parts bytes c (rules_of c (not_flips _ r₂.0)) in
    (rw (gives_same r₁₆.1) at k, holds_of c (not_flips _ r₁₆.0)))

-- a verdict on the frame, as the code has it

pub heard_bad : (id : ℕ) (bytes : List ℕ) (c : Claim) (v : Verdict) (why : BadFrame) → keeps_rules c ≡ true
    → told_verdict v ≡ checked_of id (length bytes) → v ≡ Err why → refused (refusal_of why) ≡ heard_of id bytes c
heard_bad id bytes c v why k t e =
    let b : checked_of id (length bytes) ≡ refused (refusal_of why) = sym t ∙ ap told_verdict e in
    sym (heard_past id bytes c k ∙ rw b)

pub heard_sound : (id : ℕ) (bytes eight : List ℕ) (c : Claim) (v : Verdict) (parts : Parts) → keeps_rules c ≡ true
    → told_verdict v ≡ checked_of id (length bytes) → eight ≡ bytes_if (checked_of id (length bytes)) bytes → v ≡ Ok parts
    → met_of parts eight c ≡ heard_of id bytes c
heard_sound id bytes eight c v parts k t b e =
    let g : checked_of id (length bytes) ≡ gives parts = sym t ∙ ap told_verdict e in
    let b' : eight ≡ bytes = b ∙ ap (λ (t : Told Parts). bytes_if t bytes) g in
    sym (heard_past id bytes c k ∙ rw g (ap (λ (l : List ℕ). met_of parts l c) (sym b')))

-- an answer with its state and its frame keeps the promise

candidates_after : (o : Outcome) (c : Claim) → (after o c).candidates ≡ c.candidates
unfolding after
candidates_after nothing_to_do c = refl
candidates_after own_name c = refl
candidates_after repeated c = refl
candidates_after moved c = refl
candidates_after fell_silent c = refl

module _ (id : ℕ) (bytes : List ℕ) (c : Claim) (a v : Hearing) (t : told_hearing a ≡ heard_of id bytes c) (e : a ≡ v) where
  told : heard_of id bytes c ≡ told_hearing v
  told = sym t ∙ ap told_hearing e

  pub hear_room : (d : Claim) (o : Outcome) → told_hearing v ≡ gives o → d ≡ after o c → d.position < 16
  hear_room d o g f =
      let k = heard_given id bytes c o (told ∙ g) in
      let p = ap (λ (x : Claim). x.position) f in
      omega (arith, k.0.inside, k.1.few, candidates_after o c)

  pub hear_count : (o : Outcome) → told_hearing v ≡ gives o → c.losses ≤ 16
  hear_count o g =
      let k = heard_before id bytes c o (told ∙ g) in
      let r = rules_of c k.0 in
      let l = holds_of c k.1 in
      omega (arith, count_bounded c r, l.few)

  pub hear_sends : (d : Claim) (r : Heard) → is_sent_told (told_hearing v) ≡ true → after_told (told_hearing v) c ≡ d
      → r ≡ record { claim = d; answer = a; id = claim_id d; bytes = claim_bytes d } → Hear id bytes c r
  hear_sends d r s f h =
      let n : is_sent_told (heard_of id bytes c) ≡ true = ap is_sent_told told ∙ s in
      let m : after_told (heard_of id bytes c) c ≡ d = ap (λ (x : Told Outcome). after_told x c) told ∙ f in
      record {
        answer = ap (λ (x : Heard). told_hearing x.answer) h ∙ t;
        state = ap (λ (x : Heard). x.claim) h ∙ sym m;
        sent_id = ap (λ (x : Heard). x.id) h ∙ sym (rw (n, m));
        sent_bytes = ap (λ (x : Heard). x.bytes) h ∙ sym (rw (n, m));
      }

  pub hear_keeps : (r : Heard) → is_sent_told (told_hearing v) ≡ false → after_told (told_hearing v) c ≡ c
      → r ≡ record { claim = c; answer = a; id = no_frame.id; bytes = no_frame.bytes } → Hear id bytes c r
  hear_keeps r s f h =
      let n : is_sent_told (heard_of id bytes c) ≡ false = ap is_sent_told told ∙ s in
      let m : after_told (heard_of id bytes c) c ≡ c = ap (λ (x : Told Outcome). after_told x c) told ∙ f in
      record {
        answer = ap (λ (x : Heard). told_hearing x.answer) h ∙ t;
        state = ap (λ (x : Heard). x.claim) h ∙ sym m;
        sent_id = ap (λ (x : Heard). x.id) h ∙ sym (rw n);
        sent_bytes = ap (λ (x : Heard). x.bytes) h ∙ sym (rw n);
      }

-- a state begun with the list filled up
pub begun_filled : (name : ℕ) (list filled : List ℕ) → filled ≡ padded list
    → record { name = name; list = filled; candidates = length list; position = 0; wait = 0; silent = false; losses = 0 } ≡ begun name list
begun_filled name list filled e = rw e
