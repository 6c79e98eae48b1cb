-- The pauses of a claim add up (specs/Pauses.antt).
-- Assumes nothing.
use Rattle.std.specs.Prelude.{Ok, Err, if◌then◌else◌}
use mathlib.Core.Path.{◌≡◌, refl, sym, ap, ◌∙◌}
use mathlib.Core.Bool.{true, false}
use Prim.Native.Nat.{ℕ, ◌+◌, min}
use native.Mathlib.Omega.{arith}
use Rattle.words.specs.Words.{given◌then◌, Told, refused, gives, done}
use Rattle.words.proofs.Words.{by_test, refused_gives, both_true}
use Rattle.words.proofs.Pauses.{standing, computed_add_up}
use Rattle.claim.specs.Claim.{held_after, keeps_rules, holds_list, waited, pause}
use Rattle.claim.specs.Promises.{Pausing}
use Rattle.claim.specs.Promises.{told_pausing, is_sound, sound_of}
use Rattle.claim.specs.Pauses.{counted, Pauses, pause_call, PausesAddUp}
use Rattle.claim.specs.declared.Claim.{Claim}
use Rattle.claim.specs.declared.BadState.{BadState}
use Rattle.claim.proofs.Sound.{rules_of, pause_silent, pause_awake}
use Rattle.claim.proofs.Outcomes.{rules_paused}
use Rattle.claim.proofs.Machine.{node_paused, sound_same}
use Rattle.claim.proofs.Calls.{sound_broken, sound_ill, sound_well}

-- whether a state is sound, and what is said of it
by_sound : {P : Type 0} (c : Claim)
    → ((r : ℕ) (answer : Pausing) → told_pausing answer ≡ sound_of c → sound_of c ≡ refused r → is_sound c ≡ false → P)
    → (sound_of c ≡ gives done → is_sound c ≡ true → P) → P
by_sound c broken sound =
    by_test (keeps_rules c)
    (λ k. by_test (holds_list c)
    (λ h. let e = sound_well c k h in sound e.0 e.1)
    (λ h. let e = sound_ill c k h in broken 16 (Err BadState.ListMalformed) (rw e.0) e.0 e.1))
    (λ k. let e = sound_broken c k in broken 2 (Err BadState.BrokenState) (rw e.0) e.0 e.1)

module _ (c : Claim) where
  told_so : (ms : ℕ) (d : Claim) (told : Told ℕ) → Pauses c ms told d → told ≡ (given sound_of c then λ _. gives 0)
  told_so ms d told p =
      p.told_so ∙ ap counted p.pause.answer ∙ by_sound c (λ r answer u e s. rw e) (λ e s. rw e)

  left_so : (ms : ℕ) (d : Claim) (told : Told ℕ) → Pauses c ms told d → d ≡ standing (sound_of c) c (pause ms c)
  left_so ms d told p = p.pause.state ∙ by_sound c (λ r answer u e s. rw (e, s)) (λ e s. rw (e, s))

  some : (ms : ℕ) → (told : Told ℕ) × (d : Claim) × Pauses c ms told d
  some ms = by_sound c (λ r answer u e s. answers answer u) (λ e s. answers (Ok tt) (rw e))
    where
      answers : (answer : Pausing) → told_pausing answer ≡ sound_of c → (told : Told ℕ) × (d : Claim) × Pauses c ms told d
      answers answer u = (
        counted (told_pausing answer),
        (if is_sound c then pause ms c else c),
        record { answer = answer; pause = record { answer = u; state = refl }; told_so = refl },
      )

  sound : is_sound c ≡ true → sound_of c ≡ gives done
  sound k = let t = both_true (keeps_rules c) _ k in (sound_well c t.0 t.1).0

  unsound : sound_of c ≡ gives done → is_sound c ≡ true
  unsound k = by_sound c (λ r answer u e s. refused_gives (sym e ∙ k)) (λ e s. s)

  next_keeps : (ms : ℕ) → is_sound c ≡ true → is_sound (pause ms c) ≡ true
  next_keeps ms k =
      let t = both_true (keeps_rules c) _ k in
      sound_same c (pause ms c) k (rules_paused ms c (rules_of c t.0)) (node_paused ms c)

  -- the wait stops at 250, and so does a sum of waits
  next_sum : (a b : ℕ) → pause b (pause a c) ≡ pause (a + b) c
  next_sum a b =
      by_test c.silent
      (λ s. ap (pause b) (pause_silent a c s) ∙ pause_silent b c s ∙ sym (pause_silent (a + b) c s))
      (λ s.
      let d = waited (min held_after (c.wait + a)) c in
      let e : min held_after (min held_after (c.wait + a) + b) ≡ min held_after (c.wait + (a + b)) = omega arith in
      ap (pause b) (pause_awake a c s) ∙ pause_awake b d s ∙ ap (λ (w : ℕ). waited w c) e
      ∙ sym (pause_awake (a + b) c s))

  next_none : is_sound c ≡ true → pause 0 c ≡ c
  next_none k =
      by_test c.silent
      (λ s. pause_silent 0 c s)
      (λ s.
      let r = rules_of c (both_true (keeps_rules c) _ k).0 in
      let e : min held_after (c.wait + 0) ≡ c.wait = omega (arith, r.short) in
      pause_awake 0 c s ∙ ap (λ (w : ℕ). waited w c) e)

pub pauses_add_up : PausesAddUp
pauses_add_up = computed_add_up pause_call (record {
  verdict = sound_of;
  next = pause;
  number = λ ms c. 0;
  told_so = λ ms c d told p. told_so c ms d told p;
  left_so = λ ms c d told p. left_so c ms d told p;
  some = λ ms c. some c ms;
  sound = sound;
  unsound = unsound;
  next_keeps = λ ms c k. next_keeps c ms k;
  next_none = next_none;
  number_none = λ c k. refl;
  next_sum = λ a b c k. next_sum c a b;
  number_sum = λ a b c k. refl;
})
