-- The pauses of a node table add up (specs/Pauses.antt): at one record, and at all.
-- Assumes nothing.
use Rattle.std.specs.Prelude.{Ok, Err}
use Rattle.std.specs.Prelude.{if◌then◌else◌}
use mathlib.Core.Path.{◌≡◌, refl, sym, ap, ◌∙◌}
use mathlib.Core.Bool.{true, false, not}
use mathlib.Core.List.{List, [], ◌∷◌, map}
use Prim.Native.Nat.{ℕ, zero, suc, ◌+◌}
use native.Mathlib.Omega.{arith}
use borrow.Author.Tests.{ltb-true, ltb-false, le-ltb}
use lib.ListN.{length, take}
use Rattle.words.specs.Words.{given◌then◌, ◌<?◌, Told, gives, Done, done}
use Rattle.words.specs.Lists.{every}
use Rattle.words.proofs.Words.{by_test, both_true, past_refusal, not_flips}
use Rattle.words.proofs.Pauses.{standing, computed_add_up, map_none, count_sum, count_none}
use Rattle.nodes.specs.Table.{addresses, takes_after, held, challenged, is_challenged, paused_at, is_replaced}
use Rattle.nodes.specs.Table.{each_from, paused_of, replaced_in, sound_record, keeps_rules}
use Rattle.nodes.specs.Call.{table_or, table_paused, pause_told}
use Rattle.nodes.specs.Promises.{Pausing, told_pausing}
use Rattle.nodes.specs.Runs.{Sound}
use Rattle.nodes.specs.Pauses.{Pauses, pause_call, PausesAddUp}
use Rattle.nodes.specs.declared.Node.{Node}
use Rattle.nodes.specs.declared.BadTable.{BadTable}
use Rattle.nodes.proofs.Sound.{facts_of, paused_alone, paused_waits, paused_takes, still_challenged}
use Rattle.nodes.proofs.Sentences.{counts_none, counts_waiting, counts_one}
use Rattle.nodes.proofs.Kept.{paused_length, paused_keeps}

-- ---- one record, after a pause of a and one of b

-- whom nobody challenges
unchallenged : (name : ℕ) → is_challenged (held name) ≡ false
unfolding is_challenged
unchallenged name = refl

module _ (a b : ℕ) (n : Node) where
  -- the record while its challenger waits
  abbrev waiting : Node
  waiting = challenged n.challenger (n.wait + a) n

  paused_sum : paused_at b (paused_at a n) ≡ paused_at (a + b) n
  paused_sum =
      by_test (is_challenged n)
      (λ e. by_test (n.wait + a <? takes_after)
      (λ t.
      let l = ltb-true (n.wait + a) takes_after t in
      let c = still_challenged a n e (n.wait + a) in
      let z : n.wait + a + b ≡ n.wait + (a + b) = omega arith in
      ap (paused_at b) (paused_waits a n e l)
      ∙ by_test (n.wait + (a + b) <? takes_after)
      (λ u.
      let m = ltb-true (n.wait + (a + b)) takes_after u in
      paused_waits b waiting c (omega (arith, m)) ∙ ap (λ (w : ℕ). challenged n.challenger w n) z
      ∙ sym (paused_waits (a + b) n e m))
      (λ u.
      let m = ltb-false (n.wait + (a + b)) takes_after u in
      paused_takes b waiting c (omega (arith, m)) ∙ sym (paused_takes (a + b) n e m)))
      (λ t.
      let l = ltb-false (n.wait + a) takes_after t in
      ap (paused_at b) (paused_takes a n e l) ∙ paused_alone b (held n.challenger) (unchallenged n.challenger)
      ∙ sym (paused_takes (a + b) n e (omega (arith, l)))))
      (λ e. ap (paused_at b) (paused_alone a n e) ∙ paused_alone b n e ∙ sym (paused_alone (a + b) n e))

  replaced_sum :
      (if is_replaced a n then 1 else 0) + (if is_replaced b (paused_at a n) then 1 else 0)
      ≡ (if is_replaced (a + b) n then 1 else 0)
  replaced_sum =
      by_test (is_challenged n)
      (λ e. by_test (n.wait + a <? takes_after)
      (λ t.
      let l = ltb-true (n.wait + a) takes_after t in
      let c = still_challenged a n e (n.wait + a) in
      by_test (n.wait + (a + b) <? takes_after)
      (λ u.
      let m = ltb-true (n.wait + (a + b)) takes_after u in
      rw (
        counts_waiting a n e l,
        paused_waits a n e l,
        counts_waiting b waiting c (omega (arith, m)),
        counts_waiting (a + b) n e m,
      ))
      (λ u.
      let m = ltb-false (n.wait + (a + b)) takes_after u in
      rw (
        counts_waiting a n e l,
        paused_waits a n e l,
        counts_one b waiting c (omega (arith, m)),
        counts_one (a + b) n e m,
      )))
      (λ t.
      let l = ltb-false (n.wait + a) takes_after t in
      rw (
        counts_one a n e l,
        paused_takes a n e l,
        counts_none b (held n.challenger) (unchallenged n.challenger),
        counts_one (a + b) n e (omega (arith, l)),
      )))
      (λ e. rw (counts_none a n e, paused_alone a n e, counts_none b n e, counts_none (a + b) n e))

-- ---- a pause of 0

module _ (n : Node) (s : sound_record n ≡ true) where
  paused_none : paused_at 0 n ≡ n
  paused_none =
      by_test (is_challenged n)
      (λ e.
      let z : n.wait + 0 ≡ n.wait = omega arith in
      paused_waits 0 n e (omega (arith, (facts_of n s).below)) ∙ ap (λ (w : ℕ). challenged n.challenger w n) z)
      (λ e. paused_alone 0 n e)

  replaced_none : is_replaced 0 n ≡ false
  replaced_none =
      by_test (is_challenged n)
      (λ e. counts_waiting 0 n e (omega (arith, (facts_of n s).below)))
      (λ e. counts_none 0 n e)

-- ---- all records of addresses

-- the same for each of them, whatever its address
module _ {A : Type 0} (f : A → A) where
  each_front : (k a : ℕ) (xs : List A) → take k (each_from (λ i. f) k a xs) ≡ map f (take k xs)
  unfolding each_from
  each_front zero a xs = refl
  each_front (suc k) a [] = refl
  each_front (suc k) a (x ∷ xs) = ap (λ (l : List A). f x ∷ l) (each_front k (suc a) xs)

  each_none : (k a : ℕ) (xs : List A) → map f (take k xs) ≡ take k xs → each_from (λ i. f) k a xs ≡ xs
  unfolding each_from
  each_none zero a xs e = refl
  each_none (suc k) a [] e = refl
  each_none (suc k) a (x ∷ xs) e =
      let first : f x ≡ x = cc in
      let rest : map f (take k xs) ≡ take k xs = cc in
      let more = each_none k (suc a) xs rest in
      λ i. first i ∷ more i

each_sum : {A : Type 0} (f g h : A → A) → ((x : A) → g (f x) ≡ h x) → (k a : ℕ) (xs : List A)
    → each_from (λ i. g) k a (each_from (λ i. f) k a xs) ≡ each_from (λ i. h) k a xs
unfolding each_from
each_sum f g h e zero a xs = refl
each_sum f g h e (suc k) a [] = refl
each_sum f g h e (suc k) a (x ∷ xs) =
    let first = e x in let more = each_sum f g h e k (suc a) xs in λ i. first i ∷ more i

all_sound : (records : List Node) → keeps_rules records ≡ true → every sound_record records ≡ true
unfolding keeps_rules
all_sound records k = (both_true (every sound_record records) _ k).0

module _ (table : List Node) where
  abbrev records : List Node
  records = take addresses table

  next_sum : (a b : ℕ) → paused_of b (paused_of a table) ≡ paused_of (a + b) table
  unfolding paused_of
  next_sum a b = each_sum (paused_at a) (paused_at b) (paused_at (a + b)) (paused_sum a b) addresses 0 table

  front : (ms : ℕ) → take addresses (paused_of ms table) ≡ map (paused_at ms) records
  unfolding paused_of
  front ms = each_front (paused_at ms) addresses 0 table

  number_sum : (a b : ℕ)
      → replaced_in a records + replaced_in b (take addresses (paused_of a table)) ≡ replaced_in (a + b) records
  unfolding replaced_in
  number_sum a b =
      rw (front a)
      (count_sum (paused_at a) (is_replaced a) (is_replaced b) (is_replaced (a + b)) (replaced_sum a b) records)

  next_none : Sound table → paused_of 0 table ≡ table
  unfolding paused_of
  next_none k =
      each_none (paused_at 0) addresses 0 table
      (map_none sound_record (paused_at 0) paused_none records (all_sound records k.rules))

  number_none : Sound table → replaced_in 0 records ≡ 0
  unfolding replaced_in
  number_none k = count_none sound_record (is_replaced 0) replaced_none records (all_sound records k.rules)

  next_keeps : (ms : ℕ) → Sound table → Sound (paused_of ms table)
  next_keeps ms k =
      record { enough = omega (arith, paused_length ms table, k.enough); rules = paused_keeps ms table k.rules }

  -- ---- the call

  abbrev verdict : Told Done
  verdict = table_or table (gives done)

  sound : Sound table → verdict ≡ gives done
  sound k = rw (le-ltb _ _ k.enough, k.rules)

  unsound : verdict ≡ gives done → Sound table
  unsound e =
      let x = past_refusal (length table <? addresses) 1 _ e in
      let y = past_refusal (not (keeps_rules records)) 2 _ x.1 in
      record { enough = ltb-false (length table) addresses x.0; rules = not_flips (keeps_rules records) y.0 }

  -- the ways in which it goes
  by_table : {P : Type 0} → (length table <? addresses ≡ true → P)
      → (length table <? addresses ≡ false → keeps_rules records ≡ false → P)
      → (length table <? addresses ≡ false → keeps_rules records ≡ true → P) → P
  by_table short broken kept =
      by_test (length table <? addresses) short (λ l. by_test (keeps_rules records) (kept l) (broken l))

  told_so : (ms : ℕ) (after : List Node) (told : Told ℕ) → Pauses table ms told after
      → told ≡ (given verdict then λ _. gives (replaced_in ms records))
  told_so ms after told p =
      p.told_so ∙ p.pause.answer ∙ by_table (λ l. rw l) (λ l k. rw (l, k)) (λ l k. rw (l, k))

  left_so : (ms : ℕ) (after : List Node) (told : Told ℕ) → Pauses table ms told after
      → after ≡ standing verdict table (paused_of ms table)
  left_so ms after told p = p.pause.table_after ∙ by_table (λ l. rw l) (λ l k. rw (l, k)) (λ l k. rw (l, k))

  some : (ms : ℕ) → (told : Told ℕ) × (after : List Node) × Pauses table ms told after
  some ms =
      by_table
      (λ l. answers (Err BadTable.TableTooShort) (rw l))
      (λ l k. answers (Err BadTable.BrokenState) (rw (l, k)))
      (λ l k. answers (Ok (replaced_in ms records)) (rw (l, k)))
    where
      answers : (answer : Pausing) → told_pausing answer ≡ pause_told table ms
          → (told : Told ℕ) × (after : List Node) × Pauses table ms told after
      answers answer e = (
        told_pausing answer,
        table_paused table ms,
        record { answer = answer; pause = record { answer = e; table_after = refl }; told_so = refl },
      )

pub pauses_add_up : PausesAddUp
pauses_add_up = computed_add_up pause_call (record {
  verdict = verdict;
  next = paused_of;
  number = λ ms table. replaced_in ms (take addresses table);
  told_so = λ ms table after told p. told_so table ms after told p;
  left_so = λ ms table after told p. left_so table ms after told p;
  some = λ ms table. some table ms;
  sound = sound;
  unsound = unsound;
  next_keeps = λ ms table k. next_keeps table ms k;
  next_none = next_none;
  number_none = number_none;
  next_sum = λ a b table k. next_sum table a b;
  number_sum = λ a b table k. number_sum table a b;
})
