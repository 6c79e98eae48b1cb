-- A listener's table agrees with the network.
-- Assumes nothing.
use Rattle.std.specs.Prelude.{if◌then◌else◌}
use mathlib.Core.Path.{◌≡◌, refl, sym, ap, ◌∙◌}
use mathlib.Core.Bool.{Bool, true, false}
use mathlib.Core.List.{List, [], ◌∷◌, ◌++◌, map, append-nil}
use mathlib.Core.Logic.{◌⊎◌, inl, inr}
use mathlib.Core.Option.{Option, some, none}
use Prim.Native.Nat.{ℕ, ◌≤◌, ◌<◌, ◌^◌}
use native.Mathlib.Omega.{arith}
use borrow.Author.Tests.{eq-eqb, ne_eqb, ltb-true, ltb-false}
use lib.ListN.{length, get_or, take, drop, take-append-drop}
use Rattle.words.specs.Words.{◌=?◌, ◌<?◌, gives}
use Rattle.words.proofs.Words.{by_test, true_false}
use Rattle.frame.specs.Bytes.{bytes_of}
use Rattle.frame.specs.Frame.{frame_bytes, checked_of, source_allowed}
use Rattle.frame.specs.Identifier.{identifier_of, source_of}
use Rattle.frame.specs.Standard.{claim_dgn, no_address, greatest_address}
use Rattle.frame.proofs.Sent.{formed_checked}
use Rattle.frame.proofs.Laws.{number_back}
use Rattle.frame.proofs.Bytes.{length_bytes}
use Rattle.claim.specs.Claim.{claim_priority, address, claim_source}
use Rattle.nodes.specs.Table.{addresses, absent, held, is_challenged, stands}
use Rattle.nodes.specs.Call.{holder, nobody, holder_of, looked_up_of}
use Rattle.nodes.specs.Promises.{FindChallenger}
use Rattle.nodes.specs.Runs.{Said, claims, said_of, said_by, hearing, record_after_all, Sound, RunLeft}
use Rattle.nodes.specs.declared.Node as Record
use Rattle.std.specs.Prelude.{None, Ok}
use Rattle.nodes.proofs.Sound.{stands_holder, has_name_of, of_zero}
use Rattle.nodes.proofs.Blank.{empty_keeps_rules, absent_at}
use Rattle.nodes.proofs.Find.{get_d_front, holder_held, looked_past}
use Rattle.nodes.proofs.Call.{table_passes, rival_past}
use Rattle.nodes.proofs.Shown.{looked_here, rival_here, no_rival_is, held_alone}
use Rattle.nodes.proofs.Runs.{run_by_record}
use Rattle.network.specs.Network.{Sent, Node, off, on, Network, node_at, name_of, Differ, Fit, fresh, Act, Ran}
use Rattle.network.specs.Laws.{At, AtRest, last_by}
use Rattle.network.specs.Listener.{InTurn, said_on, claims_in, Listened, Shows, TableAgrees, ClaimedFrom}
use Rattle.network.specs.Listener.{LateTableAgrees}
use Rattle.network.proofs.Lists.{equal_or, In, in_left, in_drop, last_since, word_claimed}
use Rattle.network.proofs.Moves.{mine, Known, known_source, kept_on, on_here, source_low, source_silent}
use Rattle.network.proofs.Moves.{source_awake}
use Rattle.network.proofs.NoTwo.{Held-so, run_so, at_here, here_at, no_two_lem, last_word}
use Rattle.network.proofs.Lowest.{lowest, explained_run}
use Rattle.network.proofs.Turn.{last_from, Last, last_run, from_since, from_all}
use Rattle.network.proofs.Record.{who_said, from_where, NoneBelow, who_claims, from_claims, below_claims, holder_is}
use Rattle.network.proofs.Record.{shown_came, record_facts}

-- ---- what a claim of the bus says to a table

source_fine : (source : ℕ) → source ≤ no_address → source_allowed source claim_dgn ≡ true
unfolding source_allowed
source_fine source h =
    let n : source ≡ 255 → ⊥ = λ e. omega arith in
    rw (ne_eqb source 255 n) (by_test (source =? 254) (λ t. rw t refl) (λ t. rw t refl))

claim_checked : (source size : ℕ) → source ≤ no_address → size ≡ frame_bytes
    → checked_of (identifier_of claim_priority claim_dgn source) size ≡ gives (record { priority = claim_priority; dgn = claim_dgn; source = source })
claim_checked source size h l =
    formed_checked claim_priority claim_dgn source size (omega arith) (omega arith) (omega arith) (source_fine source h) l

said_mine : (names : List ℕ) (i a : ℕ) → a ≤ no_address → name_of names i < 256 ^ frame_bytes
    → said_by (hearing (mine names i a).id (mine names i a).bytes) ≡ claims (record { source = a; name = name_of names i })
unfolding said_of
said_mine names i a h f =
    let c = claim_checked a (length (bytes_of frame_bytes (name_of names i))) h (length_bytes frame_bytes (name_of names i)) in
    rw c (ap (λ (m : ℕ). claims (record { source = a; name = m })) (number_back frame_bytes (name_of names i) f))

module _ (names : List ℕ) (fit : Fit names) where
  said_known : (x : Sent) → Known names x
      → said_by (hearing x.id x.bytes) ≡ claims (record { source = source_of x.id; name = name_of names x.by })
  said_known x k =
      ap (λ (s : Sent). said_by (hearing s.id s.bytes)) k.is
      ∙ said_mine names x.by k.source k.low (fit x.by k.one_of_us)
      ∙ ap (λ (a : ℕ). claims (record { source = a; name = name_of names x.by })) (sym (known_source names x k))

  abbrev AllKnown : List Sent → Type 0
  AllKnown l = (x : Sent) → In x l → Known names x

  -- the last claim from an address is the same to both

  abbrev name_in : Option ℕ → Option ℕ
  name_in none = none
  name_in (some i) = some (name_of names i)

  who_on : (a : ℕ) (who : Option ℕ) (l : List Sent) → AllKnown l → who_said a (name_in who) (said_on l) ≡ name_in (last_by a who l)
  who_on a who [] k = refl
  who_on a who (x ∷ l) k =
      rw (said_known x (k x (inl refl)))
      (ap (λ (t : Option ℕ). who_said a t (said_on l)) (turn (source_of x.id =? a))
      ∙ who_on a (if source_of x.id =? a then some x.by else who) l (λ y h. k y (inr h)))
    where
      turn : (b : Bool) → (if b then some (name_of names x.by) else name_in who) ≡ name_in (if b then some x.by else who)
      turn true = refl
      turn false = refl

  -- and so is the last claim of a node

  from_on : Differ names → (i : ℕ) → i < length names → (from : Option ℕ) (l : List Sent) → AllKnown l
      → from_where (name_of names i) from (said_on l) ≡ last_from i from l
  from_on d i h from [] k = refl
  from_on d i h from (x ∷ l) k =
      rw (said_known x (k x (inl refl)))
      (equal_or x.by i
      (λ e. rw (eq-eqb x.by i e, eq-eqb (name_of names x.by) (name_of names i) (ap (name_of names) e))
      (from_on d i h (some (source_of x.id)) l (λ y z. k y (inr z))))
      (λ n.
      let m : name_of names x.by ≡ name_of names i → ⊥ = λ e. n (d x.by i (k x (inl refl)).one_of_us h e) in
      rw (ne_eqb x.by i n, ne_eqb (name_of names x.by) (name_of names i) m)
      (from_on d i h from l (λ y z. k y (inr z)))))

  -- whoever claimed is one of the nodes
  from_one : (n a : ℕ) (from : Option ℕ) (l : List Sent) → AllKnown l → from_where n from (said_on l) ≡ some a
      → (from ≡ some a) ⊎ ((i : ℕ) × (i < length names) × (name_of names i ≡ n))
  from_one n a from [] k e = inl e
  from_one n a from (x ∷ l) k e =
      equal_or (name_of names x.by) n
      (λ q. inr (x.by, (k x (inl refl)).one_of_us, q))
      (λ q. from_one n a from l (λ y h. k y (inr h)) (rw (ne_eqb (name_of names x.by) n q) at (rw (said_known x (k x (inl refl))) at e)))

  below_on : (a n : ℕ) (l : List Sent) → AllKnown l → ((x : Sent) → In x l → source_of x.id ≡ a → n ≤ name_of names x.by)
      → NoneBelow a n (said_on l)
  below_on a n [] k f = tt
  below_on a n (x ∷ l) k f =
      rw (said_known x (k x (inl refl))) (f x (inl refl), below_on a n l (λ y h. k y (inr h)) (λ y h. f y (inr h)))

-- ---- the network at rest, and its table

module _ (names : List ℕ) (acts : List Act) (w : Network) (differ : Differ names) (fit : Fit names)
    (ran : Ran names (fresh names) acts w) (turn : InTurn ran) (rest : AtRest w) (all_came : w.waiting ≡ []) where
  v : Held-so names w
  v = run_so names acts w differ fit ran

  known : AllKnown names fit w.bus
  known x h = v.kept.known x (in_left x w.bus w.waiting h)

  last : (i : ℕ) → Last w.bus i (node_at w i)
  last i = rw (append-nil w.bus) at (rw all_came at (last_run names acts w fit ran turn i))

  -- nobody below ever claimed the address at which a node is
  none_lower : (i a : ℕ) → At w i a → (x : Sent) → In x w.bus → source_of x.id ≡ a → name_of names i ≤ name_of names x.by
  none_lower i a p x h s =
      let q = at_here names w i a v.kept p in
      let l : address p.claim ≤ greatest_address = (source_low p.claim (kept_on names w i p.claim p.read v.kept p.started).sound).1 in
      let m = lowest names w (explained_run names acts w fit ran) (name_of names x.by) x (in_left x w.bus w.waiting h)
      (omega (arith, s, q.1, l)) (omega arith) in
      let z : At w m.who (address m.stood.claim) =
      here_at names w m.who m.stood.claim m.stood.read v.kept m.stood.started m.stood.awake in
      let y : At w m.who a = rw (m.stood.there ∙ s) at z in
      let e : m.who ≡ i = no_two_lem names acts w differ fit ran rest m.who i a y p in
      rw (← e) m.lower

  last_there : (i a : ℕ) (p : At w i a) → last_from i none w.bus ≡ some a
  last_there i a p =
      let q = at_here names w i a v.kept p in
      (rw p.started at (last i)) ∙ ap some (source_awake p.claim q.0 ∙ q.1)

  -- and who claimed last from an address is there
  there_last : (i a : ℕ) → a ≤ greatest_address → last_from i none w.bus ≡ some a → At w i a
  there_last i a l e = go (node_at w i) refl
    where
      go : (s : Node) → node_at w i ≡ s → At w i a
      go off f =
          let z : ◌≡◌ {A = Option ℕ} none (some a) = sym (rw f at (last i)) ∙ e in
          let y : ◌≡◌ {A = ℕ} 0 1 = cc in
          absurd (omega arith)
      go (on c k) f =
          let z : ◌≡◌ {A = Option ℕ} (some (claim_source c)) (some a) = sym (rw f at (last i)) ∙ e in
          let y : claim_source c ≡ a = cc in
          by_test c.silent
          (λ s. absurd (omega (arith, y, l, source_silent c s)))
          (λ s. rw (sym (source_awake c s) ∙ y) at (here_at names w i c k v.kept f s))

  -- what was heard since so many claims had passed
  module _ (passed : ℕ) (claimed : (i a : ℕ) → At w i a → ClaimedFrom i a (drop passed w.bus)) (said : List Said)
      (heard : claims_in said ≡ said_on (drop passed w.bus)) where
    abbrev since : List Sent
    since = drop passed w.bus

    known_since : AllKnown names fit since
    known_since x h = known x (in_drop x passed w.bus h)

    whole : take passed w.bus ++ since ≡ w.bus
    whole = take-append-drop passed w.bus

    -- a node that is there holds its record
    held_there : (i a : ℕ) → At w i a → record_after_all said a absent ≡ held (name_of names i)
    held_there i a p =
        let h : i < length names = (on_here names w i p.claim p.read v.kept p.started).1 in
        holder_is a (name_of names i) said
        (below_claims a (name_of names i) said
        (rw heard
        (below_on names fit a (name_of names i) since known_since
        (λ x q. none_lower i a p x (in_drop x passed w.bus q)))))
        (who_claims a none said ∙ ap (who_said a none) heard ∙ who_on names fit a none since known_since
        ∙ ap (name_in names fit)
        (last_since a i i (take passed w.bus) since (claimed i a p)
        (ap (last_by a none) whole ∙ last_word names acts w differ fit ran rest all_came i a p)))
        (from_claims (name_of names i) none said ∙ ap (from_where (name_of names i) none) heard
        ∙ from_on names fit differ i h none since known_since
        ∙ from_since i a a (take passed w.bus) since (claimed i a p) (ap (last_from i none) whole ∙ last_there i a p))

    -- and whoever stands in a record is there
    there_shown : (n a : ℕ) → a ≤ greatest_address → stands n (record_after_all said a absent) ≡ true
        → (i : ℕ) × At w i a × (name_of names i ≡ n)
    there_shown n a l z =
        let f : from_where n none (said_on since) ≡ some a =
        ap (from_where n none) (sym heard) ∙ sym (from_claims n none said) ∙ shown_came a n said z in
        go f (from_one names fit n a none since known_since f)
      where
        go : from_where n none (said_on since) ≡ some a
            → (◌≡◌ {A = Option ℕ} none (some a)) ⊎ ((i : ℕ) × (i < length names) × (name_of names i ≡ n))
            → (i : ℕ) × At w i a × (name_of names i ≡ n)
        go f (inl e) = let y : ◌≡◌ {A = ℕ} 0 1 = cc in absurd (omega arith)
        go f (inr q) = (
          q.0,
          there_last q.0 a l
              (ap (last_from q.0 none) (sym whole)
              ∙ from_all q.0 a (take passed w.bus) since
              (sym (from_on names fit differ q.0 q.1 none since known_since)
              ∙ ap (λ (m : ℕ). from_where m none (said_on since)) q.2 ∙ f)),
          q.2,
        )

  module _ (passed : ℕ) (claimed : (i a : ℕ) → At w i a → ClaimedFrom i a (drop passed w.bus)) (table : List Record.Node)
      (l : Listened (said_on (drop passed w.bus)) table) where
    abbrev said : List Said
    said = map said_by l.calls

    begin : Sound (l.empty ++ l.behind)
    begin =
        let k = empty_keeps_rules l.empty l.behind l.is_empty in
        record { enough = k.0; rules = k.1 }

    left : RunLeft (l.empty ++ l.behind) l.calls table
    left = run_by_record (l.empty ++ l.behind) table l.calls begin l.ran

    record_is : (a : ℕ) → a < addresses → get_or table a absent ≡ record_after_all said a absent
    record_is a h =
        left.records a h
        ∙ ap (record_after_all said a)
        (sym (get_d_front addresses a (l.empty ++ l.behind) h) ∙ absent_at l.empty l.behind l.is_empty a)

    nobody_past : (a : ℕ) → greatest_address < a → Shows names w table a
    nobody_past a h =
        record {
          shown = inr (
            (λ i p.
                let q = at_here names w i a v.kept p in
                let m : address p.claim ≤ greatest_address =
                (source_low p.claim (kept_on names w i p.claim p.read v.kept p.started).sound).1 in
                omega (arith, q.1, m, h)),
            record { answer = sym (looked_past table a left.sound.enough left.sound.rules h) },
          );
          no_challenger =
              record {
                answer = sym (table_passes table _ left.sound.enough left.sound.rules
                    ∙ ap gives (rival_past (take addresses table) a h));
              };
        }

    module _ (a : ℕ) (h : a ≤ greatest_address) where
      low : a < addresses
      low = omega arith

      abbrev r : Record.Node
      r = get_or table a absent

      looked : looked_up_of table a ≡ gives (holder_of r)
      looked = looked_here table left.sound.enough left.sound.rules a low

      unchallenged : is_challenged r ≡ false → FindChallenger table a (Ok None)
      unchallenged e =
          record {
            answer = sym (rival_here table left.sound.enough left.sound.rules a low ∙ ap gives (no_rival_is r e));
          }

      holds : (i : ℕ) → At w i a → r ≡ held (name_of names i)
      holds i p = record_is a low ∙ held_there passed claimed said l.in_order i a p

      shown_present : r.present ≡ true → Shows names w table a
      shown_present p =
          let q = there_shown passed claimed said l.in_order r.name a h
          (ap (stands r.name) (sym (record_is a low)) ∙ stands_holder r.name r (has_name_of r.name r p refl)) in
          record {
            shown = inl (
              q.0,
              q.1,
              record { answer = ap (λ (m : ℕ). gives (holder m)) q.2 ∙ sym (looked ∙ ap gives (holder_held r p)) },
            );
            no_challenger = unchallenged (ap is_challenged (holds q.0 q.1) ∙ held_alone (name_of names q.0));
          }

      holder_absent : r.present ≡ false → holder_of r ≡ nobody
      unfolding holder_of
      holder_absent p = rw p refl

      shown_absent : r.present ≡ false → Shows names w table a
      shown_absent p =
          let f = (record_facts a said).absent_zeros (ap (λ (n : Record.Node). n.present) (sym (record_is a low)) ∙ p) in
          record {
            shown = inr (
              (λ i q. true_false (ap (λ (n : Record.Node). n.present) (sym (holds i q)) ∙ p)),
              record { answer = sym (looked ∙ ap gives (holder_absent p)) },
            );
            no_challenger = unchallenged (of_zero r (ap (λ (n : Record.Node). n.challenger) (record_is a low ∙ f)));
          }

    shows : (a : ℕ) → Shows names w table a
    shows a =
        by_test (greatest_address <? a)
        (λ t. nobody_past a (ltb-true greatest_address a t))
        (λ t.
        let h = ltb-false greatest_address a t in
        by_test (get_or table a absent).present (shown_present a h) (shown_absent a h))

pub late_table_agrees : LateTableAgrees
late_table_agrees names acts w differ fit ran turn rest all_came passed claimed table l a =
    shows names acts w differ fit ran turn rest all_came passed claimed table l a

-- every node claimed its address some time
pub table_agrees : TableAgrees
table_agrees names acts w differ fit ran turn rest all_came table l a =
    shows names acts w differ fit ran turn rest all_came 0
    (λ i b p. word_claimed b i w.bus (last_word names acts w differ fit ran rest all_came i b p)) table l a
