-- The hosted list: the devices that a node answers for (RULES 10.1 to 10.3; 000, 3.2.4.1 on instances).
use Rattle.std.specs.Prelude.{Bool, false, List, ◌++◌, ℕ, ◌-◌, take, replicate}
use Rattle.words.specs.Words.{◌≤?◌, ◌=?◌, ◌and◌}
use Rattle.words.specs.Lists.{every, no_two}
use Rattle.frame.specs.Identifier.{greatest_dgn, catalogue_form}
use Rattle.command.specs.declared.Edition.{Edition}
use Rattle.command.specs.declared.Entry.{Entry}
use Rattle.command.specs.declared.Host.{Host}

-- the list has at most 16 entries
abbrev pub most_entries : ℕ
most_entries = 16

-- an instance is 1 to 250
abbrev pub lowest_instance : ℕ
lowest_instance = 1

abbrev pub greatest_instance : ℕ
greatest_instance = 250

-- a DGN of the list: at most 1FFFFh, and an addressed one with 00h for its destination
unfoldable pub is_hosted_dgn : ℕ → Bool
is_hosted_dgn dgn = (dgn ≤? greatest_dgn) and (catalogue_form dgn =? dgn)

unfoldable pub is_entry : Entry → Bool
is_entry e =
    is_hosted_dgn e.command and is_hosted_dgn e.status
    and (lowest_instance ≤? e.instance) and (e.instance ≤? greatest_instance)

-- two entries with the same pair of command DGN and instance
unfoldable pub is_same_pair : Entry → Entry → Bool
is_same_pair e f = (e.command =? f.command) and (e.instance =? f.instance)

-- the entries that a host has; what its array holds after them is not looked at
abbrev pub hosted : Host → List Entry
hosted h = take h.count h.entries

-- any other list is malformed, and refused with 16
unfoldable pub is_well_formed : Host → Bool
is_well_formed h = (h.count ≤? most_entries) and every is_entry (hosted h) and no_two is_same_pair (hosted h)

-- an entry of zeros
abbrev pub blank_entry : Entry
blank_entry = record { command = 0; status = 0; instance = 0; zero_is_all = false }

-- the host as started: its entries, then entries of zeros
unfoldable pub begun : Host → Host
begun h =
    record {
      entries = hosted h ++ replicate (most_entries - h.count) blank_entry;
      count = h.count;
      edition = h.edition;
    }

-- the host with no entry, beside a refused start
abbrev pub empty : Edition → Host
empty edition = record { entries = replicate most_entries blank_entry; count = 0; edition = edition }
