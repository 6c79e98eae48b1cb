-- The worked example of 003, by computation.
-- Assumes nothing.
use mathlib.Core.Path.{refl}
use Rattle.frame.specs.Identifier.{priority_of, reserved_of, dgn_of, source_of}
use Rattle.frame.specs.Frame.{source_allowed, checked_of}
use Rattle.fast.specs.FastPacket.{begun, carried, meant, meaning_of}
use Rattle.fast.specs.Splitter.{refusal_in, first_bytes_of, later_bytes_of, frame_bytes_of, frame_of}
use Rattle.fast.specs.Example.{StatisticsJoined, StatisticsSplit}

pub statistics_joined : StatisticsJoined
unfolding meaning_of meant carried begun checked_of source_allowed priority_of reserved_of dgn_of source_of
statistics_joined = refl

pub statistics_split : StatisticsSplit
unfolding frame_of refusal_in frame_bytes_of first_bytes_of later_bytes_of
statistics_split = refl
