-- A call judged: by the first refusal that applies, or by what comes of it; and the ways in which a call on a table can
-- go.
-- Assumes nothing.
use mathlib.Core.Path.{◌≡◌, refl, sym, ap, ◌∙◌}
use mathlib.Core.List.{List}
use mathlib.Core.Bool.{true, false, not}
use Prim.Native.Nat.{ℕ, ◌≤◌, ◌<◌}
use borrow.Author.Tests.{lt-ltb, le-ltb, ltb-false}
use lib.ListN.{length, get_or, take}
use lib.Dec.{ltb}
use Rattle.words.specs.Words.{◌=?◌, Told, refused, gives, done}
use Rattle.frame.specs.Bytes.{number_of}
use Rattle.frame.specs.Frame.{checked_of}
use Rattle.frame.specs.Standard.{greatest_address, claim_dgn}
use Rattle.frame.specs.declared.Parts.{Parts}
use Rattle.words.proofs.Words.{past_refusal, refused_gives, refused_same, not_flips, by_test}
use Rattle.nodes.specs.Table.{addresses, absent, claimed_of, paused_of, replaced_in, keeps_rules}
use Rattle.nodes.specs.Call.{table_or, claim_in, nothing_to_do, claim_outcome, heard_by, left_by, heard_of}
use Rattle.nodes.specs.Call.{table_after}
use Rattle.nodes.specs.Call.{pause_told, table_paused, nobody, holder_of, holder_at, no_rival, rival_of, rival_at}
use Rattle.nodes.specs.declared.Node.{Node}
use Rattle.nodes.specs.declared.Claim.{Claim}

-- a table that is not refused
module _ {A : Type 0} (table : List Node) (told : Told A) where
  pub table_passes : addresses ≤ length table → keeps_rules (take addresses table) ≡ true → table_or table told ≡ told
  table_passes h k = rw (le-ltb _ _ h, k)

  -- what is given was given of a table that has all the addresses and keeps the rules
  pub table_sound : {a : A} → table_or table told ≡ gives a
      → (addresses ≤ length table) × (keeps_rules (take addresses table) ≡ true) × (told ≡ gives a)
  table_sound e =
      let p = past_refusal (ltb (length table) addresses) 1 _ e in
      let q = past_refusal (not (keeps_rules (take addresses table))) 2 _ p.1 in
      (ltb-false _ _ p.0, not_flips _ q.0, q.1)

-- a table judged by itself, as the code has it

pub judged_sound : (table : List Node) → gives done ≡ table_or table (gives done)
    → (addresses ≤ length table) × (keeps_rules (take addresses table) ≡ true)
judged_sound table e = let s = table_sound table (gives done) (sym e) in (s.0, s.1)

-- what is told of a table that is not refused
pub judged_passes : {A : Type 0} (table : List Node) (told was : Told A) → gives done ≡ table_or table (gives done)
    → was ≡ told → was ≡ table_or table told
judged_passes table told was e t = let s = judged_sound table e in t ∙ sym (table_passes table told s.0 s.1)

pub judged_refused : {A : Type 0} (table : List Node) (told : Told A) (n : ℕ) → refused n ≡ table_or table (gives done)
    → table_or table told ≡ refused n
judged_refused table told n e =
    by_test (ltb (length table) addresses)
    (λ t. rw t (ap refused (refused_same (sym (rw t at e)))))
    (λ t. by_test (keeps_rules (take addresses table))
    (λ k. refused_gives (rw (t, k) at e))
    (λ k. rw (t, k) (ap refused (refused_same (sym (rw (t, k) at e))))))

-- ---- what a frame that is a claim comes to, and one that is none

module _ (p : Parts) (bytes : List ℕ) (records : List Node) where
  pub heard_claim : p.dgn =? claim_dgn ≡ true → heard_by p bytes records ≡ claim_outcome records (claim_in p bytes)
  unfolding heard_by
  heard_claim d = rw d

  pub heard_other : p.dgn =? claim_dgn ≡ false → heard_by p bytes records ≡ nothing_to_do
  unfolding heard_by
  heard_other d = rw d

  pub left_claim : p.dgn =? claim_dgn ≡ true → left_by p bytes records ≡ claimed_of (claim_in p bytes) records
  unfolding left_by
  left_claim d = rw d

  pub left_other : p.dgn =? claim_dgn ≡ false → left_by p bytes records ≡ records
  unfolding left_by
  left_other d = rw d

-- ---- who holds an address, and who challenges there

module _ (records : List Node) (address : ℕ) where
  pub holder_past : greatest_address < address → holder_at address records ≡ nobody
  unfolding holder_at
  holder_past h = rw (lt-ltb _ _ h)

  pub holder_at_lem : address ≤ greatest_address → holder_at address records ≡ holder_of (get_or records address absent)
  unfolding holder_at
  holder_at_lem h = rw (le-ltb _ _ h)

  pub rival_past : greatest_address < address → rival_at address records ≡ no_rival
  unfolding rival_at
  rival_past h = rw (lt-ltb _ _ h)

  pub rival_at_lem : address ≤ greatest_address → rival_at address records ≡ rival_of (get_or records address absent)
  unfolding rival_at
  rival_at_lem h = rw (le-ltb _ _ h)

-- ---- how a call can go: refused, with nothing to do, or with a claim that is heard

pub record Claimed (table : List Node) (id : ℕ) (bytes : List ℕ) (c : Claim) : Type 0 where
  pub enough : addresses ≤ length table
  pub keeps : keeps_rules (take addresses table) ≡ true
  pub name : c.name ≡ number_of bytes
  pub answer : heard_of table id bytes ≡ gives (claim_outcome (take addresses table) c)
  pub after : table_after table id bytes ≡ claimed_of c table

pub data Went (table : List Node) (id : ℕ) (bytes : List ℕ) : Type 0 where
  stopped : (n : ℕ) → heard_of table id bytes ≡ refused n → table_after table id bytes ≡ table → Went table id bytes
  ignored : heard_of table id bytes ≡ gives nothing_to_do → table_after table id bytes ≡ table → Went table id bytes
  claimed : (c : Claim) → Claimed table id bytes c → Went table id bytes

module _ (table : List Node) (id : ℕ) (bytes : List ℕ) (enough : addresses ≤ length table)
    (keeps : keeps_rules (take addresses table) ≡ true) where
  pub heard_bad : (n : ℕ) → checked_of id (length bytes) ≡ refused n
      → (heard_of table id bytes ≡ refused n) × (table_after table id bytes ≡ table)
  heard_bad n e = (rw (le-ltb _ _ enough, keeps, e), rw (le-ltb _ _ enough, keeps, e))

  pub heard_sound : (p : Parts) → checked_of id (length bytes) ≡ gives p
      → (heard_of table id bytes ≡ gives (heard_by p bytes (take addresses table)))
      × (table_after table id bytes ≡ left_by p bytes table)
  heard_sound p e = (rw (le-ltb _ _ enough, keeps, e), rw (le-ltb _ _ enough, keeps, e))

  went_by : (t : Told Parts) → checked_of id (length bytes) ≡ t → Went table id bytes
  went_by (refused n) e = let h = heard_bad n e in stopped n h.0 h.1
  went_by (gives p) e =
      let h = heard_sound p e in
      by_test (p.dgn =? claim_dgn)
      (λ d. claimed (claim_in p bytes) (record {
        enough = enough;
        keeps = keeps;
        name = refl;
        answer = h.0 ∙ ap gives (heard_claim p bytes (take addresses table) d);
        after = h.1 ∙ left_claim p bytes table d;
      }))
      (λ d. ignored
      (h.0 ∙ ap gives (heard_other p bytes (take addresses table) d))
      (h.1 ∙ left_other p bytes table d))

pub went : (table : List Node) (id : ℕ) (bytes : List ℕ) → Went table id bytes
went table id bytes =
    by_test (ltb (length table) addresses)
    (λ e. stopped 1 (rw e) (rw e))
    (λ e. by_test (keeps_rules (take addresses table))
    (λ k. went_by table id bytes (ltb-false _ _ e) k (checked_of id (length bytes)) refl)
    (λ k. stopped 2 (rw (e, k)) (rw (e, k))))

-- a pause is refused, or passes

pub data Paused (table : List Node) (ms : ℕ) : Type 0 where
  kept : (n : ℕ) → pause_told table ms ≡ refused n → table_paused table ms ≡ table → Paused table ms
  passed : pause_told table ms ≡ gives (replaced_in ms (take addresses table)) → table_paused table ms ≡ paused_of ms table
      → Paused table ms

module _ (table : List Node) (ms : ℕ) (enough : addresses ≤ length table)
    (keeps : keeps_rules (take addresses table) ≡ true) where
  pub pause_told_lem : pause_told table ms ≡ gives (replaced_in ms (take addresses table))
  pause_told_lem = rw (le-ltb _ _ enough, keeps)

  pub pause_left : table_paused table ms ≡ paused_of ms table
  pause_left = rw (le-ltb _ _ enough, keeps)

pub paused : (table : List Node) (ms : ℕ) → Paused table ms
paused table ms =
    by_test (ltb (length table) addresses)
    (λ e. kept 1 (rw e) (rw e))
    (λ e. by_test (keeps_rules (take addresses table))
    (λ k. let l = ltb-false _ _ e in passed (pause_told_lem table ms l k) (pause_left table ms l k))
    (λ k. kept 2 (rw (e, k)) (rw (e, k))))
