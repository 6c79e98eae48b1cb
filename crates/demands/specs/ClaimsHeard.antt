-- The claim and the node table fit together (RULES 13.2): what a node sends to claim an address (RULES 8.3), another
-- node's table takes for just that claim (RULES 9.2).
use Rattle.std.specs.Prelude.{◌≡◌, true, List, ℕ, ◌≤◌, ◌<◌, ◌^◌, length, take}
use Rattle.words.specs.Words.{gives}
use Rattle.frame.specs.Frame.{frame_bytes}
use Rattle.claim.specs.Claim.{claim_source}
use Rattle.claim.specs.Laws.{OurFrameOf}
use Rattle.claim.specs.Promises.{is_sound}
use Rattle.claim.specs.declared.Claim.{Claim}
use Rattle.nodes.specs.Table.{addresses, keeps_rules, claimed_of}
use Rattle.nodes.specs.Call.{claim_outcome}
use Rattle.nodes.specs.Promises.{Hearing, Hear, told_hearing}
use Rattle.nodes.specs.declared.Node.{Node}

-- Whatever frame `claim` says is to be sent (it is the frame of our claim in the state that the call leaves), a table
-- that hears it is told what a claim of our NAME from our address, or from 254, comes to, and is left as that claim
-- leaves it.
abbrev pub ClaimIsHeard : Type 0
ClaimIsHeard =
    (c : Claim) (id : ℕ) (bytes : List ℕ) (table after : List Node) (r : Hearing)
    → is_sound c ≡ true → c.name < 256 ^ frame_bytes → OurFrameOf c id bytes
    → addresses ≤ length table → keeps_rules (take addresses table) ≡ true → Hear table id bytes r after
    → (told_hearing r ≡ gives (claim_outcome (take addresses table) (record { source = claim_source c; name = c.name })))
    × (after ≡ claimed_of (record { source = claim_source c; name = c.name }) table)
