-- The worked example of 003, 3.3.1 (RULES 12.23): a battery's statistics, 44 bytes of DGN 1F001h from source 0Eh, come
-- in seven frames of sequence 4. The frames are joined, and split again, as they are printed there.
use Rattle.std.specs.Prelude.{◌≡◌, List, [], ◌∷◌, ◌++◌, map, ℕ}
use Rattle.std.proofs.Math.Option.{none}
use Rattle.words.specs.Words.{refused, gives}
use Rattle.frame.specs.Standard.{Frame}
use Rattle.places.specs.Format.{Event, frame}
use Rattle.places.specs.OneKey.{solo}
use Rattle.places.specs.Telling.{opened, stored, finished}
use Rattle.fast.specs.OnePair.{fast_packets}
use Rattle.fast.specs.Splitter.{frame_of}

abbrev pub statistics_frames : List (List ℕ)
statistics_frames =
    (0x80 ∷ 0x2C ∷ 0x00 ∷ 0x00 ∷ 0x00 ∷ 0x00 ∷ 0x15 ∷ 0x1F ∷ []) ∷
    (0x81 ∷ 0x02 ∷ 0x64 ∷ 0xE1 ∷ 0x0B ∷ 0xDC ∷ 0x0B ∷ 0xE1 ∷ []) ∷
    (0x82 ∷ 0x0B ∷ 0xD9 ∷ 0x0B ∷ 0xD5 ∷ 0x0B ∷ 0xE7 ∷ 0x0B ∷ []) ∷
    (0x83 ∷ 0x9F ∷ 0x0B ∷ 0xCD ∷ 0x0B ∷ 0xE5 ∷ 0x0B ∷ 0xE3 ∷ []) ∷
    (0x84 ∷ 0x0B ∷ 0xF2 ∷ 0x0B ∷ 0xD9 ∷ 0x0B ∷ 0xC6 ∷ 0x0B ∷ []) ∷
    (0x85 ∷ 0xD4 ∷ 0x0B ∷ 0xF1 ∷ 0x0B ∷ 0xD9 ∷ 0x0B ∷ 0x92 ∷ []) ∷
    (0x86 ∷ 0xBD ∷ 0x00 ∷ 0x00 ∷ 0xFF ∷ 0xFF ∷ 0xFF ∷ 0xFF ∷ []) ∷ []

-- no current, 21 and 31 degrees Celsius, charge 2 %, health 100 %, the cells' voltages, and 48,530 mV in all
abbrev pub statistics : List ℕ
statistics =
    0x00 ∷ 0x00 ∷ 0x00 ∷ 0x00 ∷ 0x15 ∷ 0x1F ∷ 0x02 ∷ 0x64 ∷ 0xE1 ∷ 0x0B ∷ 0xDC ∷ 0x0B ∷ 0xE1 ∷ 0x0B ∷ 0xD9 ∷
    0x0B ∷ 0xD5 ∷ 0x0B ∷ 0xE7 ∷ 0x0B ∷ 0x9F ∷ 0x0B ∷ 0xCD ∷ 0x0B ∷ 0xE5 ∷ 0x0B ∷ 0xE3 ∷ 0x0B ∷ 0xF2 ∷ 0x0B ∷
    0xD9 ∷ 0x0B ∷ 0xC6 ∷ 0x0B ∷ 0xD4 ∷ 0x0B ∷ 0xF1 ∷ 0x0B ∷ 0xD9 ∷ 0x0B ∷ 0x92 ∷ 0xBD ∷ 0x00 ∷ 0x00 ∷ []

abbrev pub from_battery : List ℕ → Event Frame
from_battery bytes = frame (record { id = 0x19F0010E; bytes = bytes })

abbrev pub StatisticsJoined : Type 0
StatisticsJoined =
    solo (fast_packets (0x1F001 ∷ [])) none (map from_battery statistics_frames)
    ≡ gives opened ∷ gives stored ∷ gives stored ∷ gives stored ∷ gives stored ∷ gives stored
    ∷ gives (finished (record { sender = 0x0E; dgn = 0x1F001; bytes = statistics })) ∷ []

-- and there is no frame 7
abbrev pub StatisticsSplit : Type 0
StatisticsSplit =
    map (frame_of statistics 4) (0 ∷ 1 ∷ 2 ∷ 3 ∷ 4 ∷ 5 ∷ 6 ∷ 7 ∷ []) ≡ map gives statistics_frames ++ (refused 15 ∷ [])
