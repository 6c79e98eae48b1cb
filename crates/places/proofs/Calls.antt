-- The statements of specs/Calls.antt, proved for all calls that keep to their places: a run of calls is a run of the places.
-- Assumes nothing.
use mathlib.Core.Path.{◌≡◌, refl, sym, ap, ap₂, ◌∙◌, subst, subst⁻¹}
use mathlib.Core.List.{[], ◌∷◌, map}
use mathlib.Core.Option.{none}
use Rattle.words.specs.Words.{gives}
use Rattle.places.specs.Format.{Format, frame, pause}
use Rattle.places.specs.OneKey.{solo}
use Rattle.places.specs.Places.{said, heard, paused, lookup, hear, closed_by, eight_free, after, History, run}
use Rattle.places.specs.Places.{events_of, told_to, admitted}
use Rattle.places.specs.Statements.{EightOthersOpen, ClosedByRules}
use Rattle.places.specs.Calls.{Calls, Ran, no_call, a_frame, a_pause, FromStart, BusyBus, OpenOnBus, ToldOnBus}
use Rattle.places.specs.Calls.{NoPlaceFree, PauseCount, SumsOnBus, KeepsPlaces, StartKept, RulesKept}
use Rattle.places.specs.Calls.{EveryRunRuns, FullAtAnyState, PauseAtAnyState}
use Rattle.places.proofs.Statements.{never_full_answered, never_full_admitted, open_as_rules, told_as_rules}
use Rattle.places.proofs.Statements.{full_exactly_when, full_exactly_when_at, closes_as_rules, pause_closes}
use Rattle.places.proofs.Statements.{solo_sums}

module _ {𝓕 : Format} (𝓒 : Calls 𝓕) (𝓚 : KeepsPlaces 𝓒) where
  pub start_kept : StartKept 𝓒
  start_kept s h = 𝓚.starts_kept s h

  pub rules_kept : RulesKept 𝓒
  rules_kept h s t k (no_call _) = k
  rules_kept h s t k (a_frame _ u _ f o l c r) = rules_kept l u t (𝓚.hears_kept s u f o k c) r
  rules_kept h s t k (a_pause _ u _ ms n l c r) = rules_kept l u t (𝓚.pauses_kept s u ms n k c) r

  -- a run of calls is a run of the places

  history_run : (h : History 𝓕) (s t : 𝓒.State) → 𝓒.Kept s → Ran 𝓒 s h t → h ≡ run 𝓕 (𝓒.seen s) (events_of 𝓕 h)
  history_run h s t k (no_call _) = refl
  history_run h s t k (a_frame _ u _ f o l c r) =
      ap₂ (λ a rest. heard f a ∷ rest) (𝓚.hears_told s u f o k c)
      (history_run l u t (𝓚.hears_kept s u f o k c) r ∙ ap (λ ps. run 𝓕 ps (events_of 𝓕 l)) (𝓚.hears_seen s u f o k c))
  history_run h s t k (a_pause _ u _ ms n l c r) =
      ap₂ (λ a rest. paused ms a ∷ rest) (𝓚.pauses_told s u ms n k c)
      (history_run l u t (𝓚.pauses_kept s u ms n k c) r ∙ ap (λ ps. run 𝓕 ps (events_of 𝓕 l)) (𝓚.pauses_seen s u ms n k c))

  seen_run : (h : History 𝓕) (s t : 𝓒.State) → 𝓒.Kept s → Ran 𝓒 s h t → 𝓒.seen t ≡ after 𝓕 (𝓒.seen s) (events_of 𝓕 h)
  seen_run h s t k (no_call _) = refl
  seen_run h s t k (a_frame _ u _ f o l c r) =
      seen_run l u t (𝓚.hears_kept s u f o k c) r ∙ ap (λ ps. after 𝓕 ps (events_of 𝓕 l)) (𝓚.hears_seen s u f o k c)
  seen_run h s t k (a_pause _ u _ ms n l c r) =
      seen_run l u t (𝓚.pauses_kept s u ms n k c) r ∙ ap (λ ps. after 𝓕 ps (events_of 𝓕 l)) (𝓚.pauses_seen s u ms n k c)

  module _ (h : History 𝓕) (s : 𝓒.State) (b : FromStart 𝓒 h s) where
    first_kept : 𝓒.Kept b.first
    first_kept = 𝓚.starts_kept b.first b.starts

    end_kept : 𝓒.Kept s
    end_kept = rules_kept h b.first s first_kept b.ran

    from_free : h ≡ run 𝓕 (eight_free 𝓕) (events_of 𝓕 h)
    from_free = history_run h b.first s first_kept b.ran ∙ ap (λ ps. run 𝓕 ps (events_of 𝓕 h)) (𝓚.starts_free b.first b.starts)

    seen_free : 𝓒.seen s ≡ after 𝓕 (eight_free 𝓕) (events_of 𝓕 h)
    seen_free = seen_run h b.first s first_kept b.ran ∙ ap (λ ps. after 𝓕 ps (events_of 𝓕 h)) (𝓚.starts_free b.first b.starts)

  pub open_on_bus : OpenOnBus 𝓒
  open_on_bus h s b k = ap (lookup k) (seen_free h s b) ∙ rw (← from_free h s b) at (open_as_rules 𝓕 k (events_of 𝓕 h))

  pub told_on_bus : ToldOnBus 𝓒
  told_on_bus h s b k = rw (← from_free h s b) at (told_as_rules 𝓕 k (events_of 𝓕 h))

  pub busy_bus : BusyBus 𝓒
  busy_bus h s b k n =
      never_full_answered 𝓕 (told_to 𝓕 k h) n ∙ ap (map said) (told_on_bus h s b k ∙ ap (solo 𝓕 none) (never_full_admitted 𝓕 k h n))

  pub no_place_free : NoPlaceFree 𝓒
  no_place_free h s t f o b c =
      let i = full_exactly_when 𝓕 (events_of 𝓕 h) f in
      let told = 𝓚.hears_told s t f o (end_kept h s b) c ∙ ap (λ ps. (hear 𝓕 f ps).answer) (seen_free h s b) in
      let e = from_free h s b in (
        (λ p. let r = i.0 (sym told ∙ p) in (r.0, subst⁻¹ (EightOthersOpen 𝓕 (𝓕.key f)) e r.1)),
        (λ p. told ∙ i.1 (p.0, subst (EightOthersOpen 𝓕 (𝓕.key f)) e p.1)),
      )

  pub pause_count : PauseCount 𝓒
  pause_count h s t ms told b c =
      let n = closed_by 𝓕 ms (after 𝓕 (eight_free 𝓕) (events_of 𝓕 h)) in (
        n,
        𝓚.pauses_told s t ms told (end_kept h s b) c ∙ ap (λ ps. gives (closed_by 𝓕 ms ps)) (seen_free h s b),
        subst⁻¹ (ClosedByRules 𝓕 ms n) (from_free h s b) (closes_as_rules 𝓕 ms (events_of 𝓕 h)),
      )

  pub sums_on_bus : SumsOnBus 𝓒
  sums_on_bus 𝓟 h h' s s' b b' k e =
      told_on_bus h s b k ∙ solo_sums 𝓕 𝓟 (admitted 𝓕 k h) (admitted 𝓕 k h') e ∙ sym (told_on_bus h' s' b' k)

  pub every_run_runs : EveryRunRuns 𝓒
  every_run_runs s k [] = ([], s, no_call s, refl)
  every_run_runs s k (frame f ∷ es) =
      let c = 𝓚.hears_some s f k in
      let r = every_run_runs c.1 (𝓚.hears_kept s c.1 f c.0 k c.2) es in
      (heard f c.0 ∷ r.0, r.1, a_frame s c.1 r.1 f c.0 r.0 c.2 r.2, ap (λ l. frame f ∷ l) r.3)
  every_run_runs s k (pause ms ∷ es) =
      let c = 𝓚.pauses_some s ms k in
      let r = every_run_runs c.1 (𝓚.pauses_kept s c.1 ms c.0 k c.2) es in
      (paused ms c.0 ∷ r.0, r.1, a_pause s c.1 r.1 ms c.0 r.0 c.2 r.2, ap (λ l. pause ms ∷ l) r.3)

  pub full_at_any_state : FullAtAnyState 𝓒
  full_at_any_state s t f o k c =
      let i = full_exactly_when_at 𝓕 (𝓒.seen s) f (𝓚.eight s k) (𝓚.each s k) in
      let e = 𝓚.hears_told s t f o k c in
      ((λ p. i.0 (sym e ∙ p)), (λ p. e ∙ i.1 p))

  pub pause_at_any_state : PauseAtAnyState 𝓒
  pause_at_any_state s t ms told k c =
      let p = pause_closes 𝓕 ms (𝓒.seen s) (𝓚.each s k) in
      record {
        number = 𝓚.pauses_told s t ms told k c ∙ ap gives p.closed;
        sessions = λ j. ap (lookup j) (𝓚.pauses_seen s t ms told k c) ∙ p.session j;
      }
