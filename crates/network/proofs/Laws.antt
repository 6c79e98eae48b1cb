-- The laws of a network, proved.
-- Assumes nothing.
pub use Rattle.network.proofs.NoTwo.{no_two_lem as no_two, last_word}
pub use Rattle.network.proofs.Few.{few_claims, few_deliveries}
pub use Rattle.network.proofs.Deliver.{delivers_on, comes_to_rest, every_act_can, none_refuses}
pub use Rattle.network.proofs.Held.{held_at_last}
pub use Rattle.network.proofs.Agrees.{table_agrees, late_table_agrees}
pub use Rattle.network.proofs.AnyOrder.{no_two_in_any_order}
pub use Rattle.network.proofs.Needed.{names_differ, none_lost, start_first, one_order, own_order}
