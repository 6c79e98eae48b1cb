-- Pauses add up (RULES 13.15, request #108): one statement, that of crates/words/specs/Pauses.antt, of each part of the
-- library that has a call `pause`. It speaks of the calls, told by their promises alone.
use Rattle.message.specs.Pauses as Message
use Rattle.fast.specs.Pauses as Fast
use Rattle.claim.specs.Pauses as Claim
use Rattle.nodes.specs.Pauses as Nodes

pub record PausesAddUp : Type 0 where
  pub long_messages : Message.PausesAddUp
  pub fast_packets : Fast.PausesAddUp
  pub claim : Claim.PausesAddUp
  pub node_table : Nodes.PausesAddUp
