-- The rows of the catalogue (RULES 6.1 and 6.2): DGN, first bit, width, unit, and the row's mark. Behind each row: the
-- field, and its line in 000. (Made by tools/catalogue from docs/catalogue.tsv.)
use Rattle.std.specs.Prelude.{Bool, true, false, List, [], ◌∷◌, ℕ}
use Rattle.catalogue.specs.declared.Row.{Row}
use Rattle.catalogue.specs.declared.Unit.{Unit}
use Rattle.catalogue.specs.declared.Unit.TheVariants.{Other, Percent, Celsius, Volt, Ampere, Hertz}

-- a plain row is always a number; the others have classes, a two-state row one more: out-of-range at 10b
pub record Mark : Type 0 where
  pub plain : Bool
  pub two_states : Bool

abbrev pub classed : Mark
classed = record { plain = false; two_states = false }

abbrev pub plain : Mark
plain = record { plain = true; two_states = false }

abbrev pub two_state : Mark
two_state = record { plain = false; two_states = true }

abbrev pub row : ℕ → ℕ → ℕ → Unit → Mark → Row
row dgn first width unit mark =
    record {
      dgn = dgn;
      first = first;
      width = width;
      unit = unit;
      plain = mark.plain;
      two_state = mark.two_states;
    }

abbrev pub row_count : ℕ
row_count = 375

unfoldable pub rows : List Row
rows =
    -- 6.9.13 WATERHEATER_CONFIGURATION_COMMAND
    row 0x1FD9C 0 8 Other classed ∷  -- Instance, 3345
    row 0x1FD9C 8 16 Other plain ∷  -- System timer – starting value, 3346
    row 0x1FD9C 24 16 Other classed ∷  -- Domestic Water timer – starting value, 3347
    -- 6.9.12 WATERHEATER_CONFIGURATION_STATUS
    row 0x1FD9D 0 8 Other classed ∷  -- Instance, 3345
    row 0x1FD9D 8 16 Other plain ∷  -- System timer – starting value, 3346
    row 0x1FD9D 24 16 Other classed ∷  -- Domestic Water timer – starting value, 3347
    -- 6.9.11 WATERHEATER_TIMER_STATUS
    row 0x1FD9E 0 8 Other classed ∷  -- Instance, 3320
    row 0x1FD9E 8 16 Other classed ∷  -- System timer, 3321
    row 0x1FD9E 24 16 Other classed ∷  -- Domestic Water timer, 3322
    -- 6.9.10 CIRCULATION_PUMP_TIMER_STATUS
    row 0x1FD9F 0 8 Other classed ∷  -- Instance, 3299
    row 0x1FD9F 8 16 Other classed ∷  -- Pump Override timer, 3300
    -- 6.20.24 CHARGER_PROPERTIES
    row 0x1FDAA 0 8 Other classed ∷  -- Instance, 8007
    row 0x1FDAA 8 8 Ampere classed ∷  -- Charging Current – Max Setting, 8008
    row 0x1FDAA 16 8 Ampere classed ∷  -- Equalization time, 8009
    row 0x1FDAA 24 8 Ampere plain ∷  -- Charging Current – Resolution, 8010
    row 0x1FDAA 32 8 Other classed ∷  -- Supported Battery Types, 8011
    row 0x1FDAA 40 8 Other classed ∷  -- Supported Battery Types (Continued), 8014
    row 0x1FDAA 48 2 Other two_state ∷  -- Vendor-Defined Proprietary Type 1 – User Defined Charge Parameters, 8015
    row 0x1FDAA 50 2 Other two_state ∷  -- Vendor-Defined Proprietary Type 2 – User Defined Charge Parameters, 8016
    -- 6.17.9 AIR_CONDITIONER_COMPONENT_STATUS_2
    row 0x1FDAB 0 8 Other classed ∷  -- Instance, 5623
    row 0x1FDAB 8 8 Other classed ∷  -- Secondary Instance, 5624
    row 0x1FDAB 16 16 Ampere classed ∷  -- Current, 5625
    row 0x1FDAB 32 16 Volt classed ∷  -- Voltage, 5626
    row 0x1FDAB 48 16 Other classed ∷  -- Power, 5627
    -- 6.17.8 AIR_CONDITIONER_COMPONENT_COMMAND
    row 0x1FDAC 0 8 Other classed ∷  -- Instance, 5595
    row 0x1FDAC 8 8 Other classed ∷  -- Secondary Instance, 5596
    row 0x1FDAC 16 4 Other classed ∷  -- Operating direction/mode, 5597
    row 0x1FDAC 24 8 Percent classed ∷  -- Output Level, 5600
    -- 6.17.7 AIR_CONDITIONER_COMPONENT_STATUS
    row 0x1FDAD 0 8 Other classed ∷  -- Instance, 5554
    row 0x1FDAD 8 8 Other classed ∷  -- Secondary Instance, 5555
    row 0x1FDAD 16 4 Other classed ∷  -- Operating direction/mode, 5556
    row 0x1FDAD 20 2 Other two_state ∷  -- De-icing status, 5557
    row 0x1FDAD 24 8 Percent classed ∷  -- Output Level, 5558
    row 0x1FDAD 32 4 Other classed ∷  -- Output Resolution, 5559
    row 0x1FDAD 36 4 Other classed ∷  -- A/C Component State, 5562
    row 0x1FDAD 40 8 Other classed ∷  -- Delay Timer, 5563
    -- 6.17.3 AIR_CONDITIONER_STATUS_2
    row 0x1FDC9 0 8 Other classed ∷  -- Instance, 5463
    row 0x1FDC9 8 4 Other classed ∷  -- Compressor status, 5464
    row 0x1FDC9 19 2 Other two_state ∷  -- Reduced noise mode, 5465
    row 0x1FDC9 24 16 Celsius classed ∷  -- Exterior Temperature, 5466
    row 0x1FDC9 40 16 Celsius classed ∷  -- Coil Temperature, 5467
    row 0x1FDC9 56 2 Other two_state ∷  -- Coil Temp Error, 5468
    row 0x1FDC9 58 2 Other two_state ∷  -- Coil Freeze detected, 5469
    row 0x1FDC9 60 2 Other two_state ∷  -- Exterior Temp Error, 5471
    row 0x1FDC9 62 2 Other two_state ∷  -- Defrost cycle active, 5472
    -- 6.20.10 CHARGER_STATUS_3
    row 0x1FDCA 0 8 Other classed ∷  -- Charger Instance, 7692
    row 0x1FDCA 8 2 Other two_state ∷  -- Derating Status, 7693
    row 0x1FDCA 16 8 Other classed ∷  -- Derating Reason, 7695
    -- 6.9.7 CIRCULATION_PUMP_COMMAND
    row 0x1FE96 0 8 Other classed ∷  -- Instance, 3214
    row 0x1FE96 8 4 Other classed ∷  -- Output Mode, 3217
    -- 6.9.6 CIRCULATION_PUMP_STATUS
    row 0x1FE97 0 8 Other classed ∷  -- Instance, 3189
    row 0x1FE97 8 4 Other classed ∷  -- Output Status, 3190
    row 0x1FE97 16 2 Other two_state ∷  -- Pump Overcurrent Status, 3191
    row 0x1FE97 18 2 Other two_state ∷  -- Pump Undercurrent Status, 3192
    row 0x1FE97 20 2 Other two_state ∷  -- Pump Temperature Status, 3193
    -- 6.9.5 WATERHEATER_COMMAND_2
    row 0x1FE98 0 8 Other classed ∷  -- Instance, 3165
    row 0x1FE98 8 4 Other classed ∷  -- Engine Preheat, 3166
    row 0x1FE98 16 8 Other classed ∷  -- Command, 3167
    row 0x1FE98 24 2 Other two_state ∷  -- Hot Water Priority, 3168
    -- 6.9.4 WATERHEATER_STATUS_2
    row 0x1FE99 0 8 Other classed ∷  -- Instance, 3118
    row 0x1FE99 8 4 Other classed ∷  -- Electric Element Level, 3119
    row 0x1FE99 12 4 Other classed ∷  -- Max Electric Element Level, 3120
    row 0x1FE99 16 4 Other classed ∷  -- Engine Preheat, 3121
    row 0x1FE99 20 2 Other two_state ∷  -- Coolant Level Warning, 3122
    row 0x1FE99 22 2 Other two_state ∷  -- Hot Water Priority, 3123
    row 0x1FE99 24 2 Other two_state ∷  -- Output Status:Burner, 3124
    row 0x1FE99 26 2 Other two_state ∷  -- Output Status:Burner Indicator, 3125
    row 0x1FE99 28 2 Other two_state ∷  -- Output Status:Electric Low, 3127
    row 0x1FE99 30 2 Other two_state ∷  -- Output Status:Electric High, 3128
    row 0x1FE99 32 2 Other two_state ∷  -- Burner Overcurrent Status, 3129
    row 0x1FE99 34 2 Other two_state ∷  -- Burner Undercurrent Status, 3130
    row 0x1FE99 36 2 Other two_state ∷  -- Burner Temperature Status, 3131
    row 0x1FE99 38 2 Other two_state ∷  -- Burner Input Status, 3132
    row 0x1FE99 40 2 Other two_state ∷  -- Burner Indicator Overcurrent Status, 3133
    row 0x1FE99 42 2 Other two_state ∷  -- Burner Indicator Undercurrent Status, 3134
    row 0x1FE99 44 2 Other two_state ∷  -- Burner Indicator Temperature Status, 3135
    row 0x1FE99 48 2 Other two_state ∷  -- Electric Low Element Overcurrent Status, 3136
    row 0x1FE99 50 2 Other two_state ∷  -- Electric Low Element Undercurrent Status, 3137
    row 0x1FE99 52 2 Other two_state ∷  -- Electric Low Element Temperature Status, 3138
    row 0x1FE99 54 2 Other two_state ∷  -- Electric Low Element Input Status, 3139
    row 0x1FE99 56 2 Other two_state ∷  -- Electric High Element Overcurrent Status, 3140
    row 0x1FE99 58 2 Other two_state ∷  -- Electric High Element Undercurrent Status, 3141
    row 0x1FE99 60 2 Other two_state ∷  -- Electric High Element Temperature Status, 3142
    row 0x1FE99 62 2 Other two_state ∷  -- Electric High Element Input Status, 3143
    -- 6.20.9 CHARGER_STATUS_2
    row 0x1FEA3 0 8 Other classed ∷  -- Charger Instance, 7666
    row 0x1FEA3 8 8 Other classed ∷  -- DC Source Instance(DEPRECATED), 7667
    row 0x1FEA3 16 8 Other classed ∷  -- Charger priority, 7668
    row 0x1FEA3 24 16 Volt classed ∷  -- Charging voltage, 7669
    row 0x1FEA3 40 16 Ampere classed ∷  -- Charging current, 7670
    row 0x1FEA3 56 8 Celsius classed ∷  -- Charger temperature, 7671
    -- 6.20.19 CHARGER_CONFIGURATION_COMMAND_4
    row 0x1FEBE 0 8 Other classed ∷  -- Instance, 7893
    row 0x1FEBE 8 16 Other classed ∷  -- Bulk Time, 7894
    row 0x1FEBE 24 16 Other classed ∷  -- Absorption Time, 7895
    row 0x1FEBE 40 16 Other classed ∷  -- Float Time, 7896
    -- 6.20.18 CHARGER_CONFIGURATION_STATUS_4
    row 0x1FEBF 0 8 Other classed ∷  -- Instance, 7893
    row 0x1FEBF 8 16 Other classed ∷  -- Bulk Time, 7894
    row 0x1FEBF 24 16 Other classed ∷  -- Absorption Time, 7895
    row 0x1FEBF 40 16 Other classed ∷  -- Float Time, 7896
    -- 6.20.17 CHARGER_CONFIGURATION_COMMAND_3
    row 0x1FECB 0 8 Other classed ∷  -- Instance, 7851
    row 0x1FECB 8 16 Volt classed ∷  -- Bulk Voltage, 7852
    row 0x1FECB 24 16 Volt classed ∷  -- Absorption Voltage, 7853
    row 0x1FECB 40 16 Volt classed ∷  -- Float Voltage, 7854
    row 0x1FECB 56 8 Other classed ∷  -- Temperature Compensation Constant, 7855
    -- 6.20.16 CHARGER_CONFIGURATION_STATUS_3
    row 0x1FECC 0 8 Other classed ∷  -- Instance, 7851
    row 0x1FECC 8 16 Volt classed ∷  -- Bulk Voltage, 7852
    row 0x1FECC 24 16 Volt classed ∷  -- Absorption Voltage, 7853
    row 0x1FECC 40 16 Volt classed ∷  -- Float Voltage, 7854
    row 0x1FECC 56 8 Other classed ∷  -- Temperature Compensation Constant, 7855
    -- 6.16.10 THERMOSTAT_SCHEDULE_COMMAND_2
    row 0x1FEF4 0 8 Other classed ∷  -- Instance, 5156
    row 0x1FEF4 8 8 Other classed ∷  -- Schedule mode Instance, 5157
    row 0x1FEF4 16 2 Other two_state ∷  -- Sunday, 5158
    row 0x1FEF4 18 2 Other two_state ∷  -- Monday, 5159
    row 0x1FEF4 20 2 Other two_state ∷  -- Tuesday, 5160
    row 0x1FEF4 22 2 Other two_state ∷  -- Wednesday, 5161
    row 0x1FEF4 28 2 Other two_state ∷  -- Saturday, 5164
    -- 6.16.9 THERMOSTAT_SCHEDULE_COMMAND_1
    row 0x1FEF5 0 8 Other classed ∷  -- Instance, 5130
    row 0x1FEF5 8 8 Other classed ∷  -- Schedule mode instance, 5131
    row 0x1FEF5 16 8 Other classed ∷  -- Start hour, 5132
    row 0x1FEF5 24 8 Other classed ∷  -- Start minute, 5133
    row 0x1FEF5 32 16 Celsius classed ∷  -- Setpoint temp - Heat, 5134
    row 0x1FEF5 48 16 Celsius classed ∷  -- Setpoint temp - Cool, 5135
    -- 6.16.8 THERMOSTAT_SCHEDULE_STATUS_2
    row 0x1FEF6 0 8 Other classed ∷  -- Instance, 5156
    row 0x1FEF6 8 8 Other classed ∷  -- Schedule mode Instance, 5157
    row 0x1FEF6 16 2 Other two_state ∷  -- Sunday, 5158
    row 0x1FEF6 18 2 Other two_state ∷  -- Monday, 5159
    row 0x1FEF6 20 2 Other two_state ∷  -- Tuesday, 5160
    row 0x1FEF6 22 2 Other two_state ∷  -- Wednesday, 5161
    row 0x1FEF6 28 2 Other two_state ∷  -- Saturday, 5164
    -- 6.16.7 THERMOSTAT_SCHEDULE_STATUS_1
    row 0x1FEF7 0 8 Other classed ∷  -- Instance, 5130
    row 0x1FEF7 8 8 Other classed ∷  -- Schedule mode instance, 5131
    row 0x1FEF7 16 8 Other classed ∷  -- Start hour, 5132
    row 0x1FEF7 24 8 Other classed ∷  -- Start minute, 5133
    row 0x1FEF7 32 16 Celsius classed ∷  -- Setpoint temp - Heat, 5134
    row 0x1FEF7 48 16 Celsius classed ∷  -- Setpoint temp - Cool, 5135
    -- 6.16.5 THERMOSTAT_COMMAND_2
    row 0x1FEF8 0 8 Other classed ∷  -- Instance, 5098
    row 0x1FEF8 8 8 Other classed ∷  -- Current schedule instance, 5099
    row 0x1FEF8 16 2 Other two_state ∷  -- Reduced noise mode, 5100
    -- 6.16.4 THERMOSTAT_COMMAND_1
    row 0x1FEF9 0 8 Other classed ∷  -- Instance, 5026
    row 0x1FEF9 8 4 Other classed ∷  -- Operating mode, 5027
    row 0x1FEF9 12 2 Other two_state ∷  -- Fan mode, 5028
    row 0x1FEF9 14 2 Other two_state ∷  -- Schedule mode, 5029
    row 0x1FEF9 16 8 Percent classed ∷  -- Fan speed, 5030
    row 0x1FEF9 24 16 Celsius classed ∷  -- Setpoint temp – Heat, 5031
    row 0x1FEF9 40 16 Celsius classed ∷  -- Setpoint temp – Cool, 5032
    -- 6.16.3 THERMOSTAT_STATUS_2
    row 0x1FEFA 0 8 Other classed ∷  -- Instance, 5054
    row 0x1FEFA 8 8 Other classed ∷  -- Current schedule instance, 5055
    row 0x1FEFA 16 8 Other classed ∷  -- Number of schedule instances, 5056
    row 0x1FEFA 24 2 Other two_state ∷  -- Reduced noise mode, 5057
    -- 6.20.7 CHARGER_ACFAULT_CONFIGURATION_COMMAND_2
    row 0x1FF86 0 8 Other classed ∷  -- Instance, 1418
    row 0x1FF86 8 8 Hertz classed ∷  -- High frequency limit, 1419
    row 0x1FF86 16 8 Hertz classed ∷  -- Low frequency limit, 1420
    -- 6.20.7 CHARGER_ACFAULT_CONFIGURATION_COMMAND_1
    row 0x1FF87 0 8 Other classed ∷  -- Instance, 1390
    row 0x1FF87 8 8 Volt classed ∷  -- Extreme low voltage level, 1391
    row 0x1FF87 16 8 Volt classed ∷  -- Low voltage level, 1392
    row 0x1FF87 24 8 Volt classed ∷  -- High voltage level, 1394
    row 0x1FF87 32 8 Volt classed ∷  -- Extreme high voltage level, 1395
    row 0x1FF87 40 8 Other classed ∷  -- Qualification time, 1396
    row 0x1FF87 48 2 Other two_state ∷  -- Bypass mode, 1397
    -- 6.20.7 CHARGER_ACFAULT_CONFIGURATION_STATUS_2
    row 0x1FF88 0 8 Other classed ∷  -- Instance, 1418
    row 0x1FF88 8 8 Hertz classed ∷  -- High frequency limit, 1419
    row 0x1FF88 16 8 Hertz classed ∷  -- Low frequency limit, 1420
    -- 6.20.7 CHARGER_ACFAULT_CONFIGURATION_STATUS_1
    row 0x1FF89 0 8 Other classed ∷  -- Instance, 1390
    row 0x1FF89 8 8 Volt classed ∷  -- Extreme low voltage level, 1391
    row 0x1FF89 16 8 Volt classed ∷  -- Low voltage level, 1392
    row 0x1FF89 24 8 Volt classed ∷  -- High voltage level, 1394
    row 0x1FF89 32 8 Volt classed ∷  -- Extreme high voltage level, 1395
    row 0x1FF89 40 8 Other classed ∷  -- Qualification time, 1396
    row 0x1FF89 48 2 Other two_state ∷  -- Bypass mode, 1397
    -- 6.20.6 CHARGER_AC_STATUS_4
    row 0x1FF8A 0 8 Other classed ∷  -- Instance, 1363
    row 0x1FF8A 8 8 Other classed ∷  -- Voltage fault, 1364
    row 0x1FF8A 16 2 Other two_state ∷  -- Fault – Surge protection, 1365
    row 0x1FF8A 18 2 Other two_state ∷  -- Fault – High frequency, 1366
    row 0x1FF8A 20 2 Other two_state ∷  -- Fault – Low frequency, 1367
    row 0x1FF8A 22 2 Other two_state ∷  -- Bypass mode active, 1368
    row 0x1FF8A 24 4 Other classed ∷  -- Qualification Status, 1369
    -- 6.20.15 CHARGER_CONFIGURATION_COMMAND_2
    row 0x1FF95 0 8 Other classed ∷  -- Instance, 7809
    row 0x1FF95 8 8 Percent classed ∷  -- Maximum charge current as percent, 7810
    row 0x1FF95 16 8 Percent classed ∷  -- Charge rate limit as percent of bank size, 7811
    row 0x1FF95 24 8 Ampere classed ∷  -- Shore Breaker Size, 7812
    row 0x1FF95 32 8 Celsius classed ∷  -- Default Battery Temperature, 7813
    row 0x1FF95 40 16 Volt classed ∷  -- Recharge Voltage, 7814
    -- 6.20.14 CHARGER_CONFIGURATION_STATUS_2
    row 0x1FF96 0 8 Other classed ∷  -- Instance, 7809
    row 0x1FF96 8 8 Percent classed ∷  -- Maximum charge current as percent, 7810
    row 0x1FF96 16 8 Percent classed ∷  -- Charge rate limit as percent of bank size, 7811
    row 0x1FF96 24 8 Ampere classed ∷  -- Shore Breaker Size, 7812
    row 0x1FF96 32 8 Celsius classed ∷  -- Default Battery Temperature, 7813
    row 0x1FF96 40 16 Volt classed ∷  -- Recharge Voltage, 7814
    -- 6.20.23 CHARGER_EQUALIZATION_CONFIGURATION_COMMAND
    row 0x1FF97 0 8 Other classed ∷  -- Instance, 7962
    row 0x1FF97 8 16 Volt classed ∷  -- Equalization voltage, 7963
    row 0x1FF97 24 16 Other classed ∷  -- Equalization time, 7964
    -- 6.20.22 CHARGER_EQUALIZATION_CONFIGURATION_STATUS
    row 0x1FF98 0 8 Other classed ∷  -- Instance, 7962
    row 0x1FF98 8 16 Volt classed ∷  -- Equalization voltage, 7963
    row 0x1FF98 24 16 Other classed ∷  -- Equalization time, 7964
    -- 6.20.21 CHARGER_EQUALIZATION_STATUS
    row 0x1FF99 0 8 Other classed ∷  -- Instance, 7938
    row 0x1FF99 8 16 Other classed ∷  -- Time remaining, 7939
    row 0x1FF99 24 2 Other two_state ∷  -- Pre-charging status, 7940
    -- 6.17.6 HEAT_PUMP_COMMAND
    row 0x1FF9A 0 8 Other classed ∷  -- Instance, 5511
    row 0x1FF9A 8 8 Other classed ∷  -- Operating mode, 5512
    row 0x1FF9A 16 8 Percent classed ∷  -- Max heat output level, 5513
    row 0x1FF9A 24 8 Percent classed ∷  -- Heat output level, 5514
    row 0x1FF9A 32 8 Other classed ∷  -- Dead band, 5515
    row 0x1FF9A 40 8 Other classed ∷  -- Second stage dead band, 5516
    row 0x1FF9A 48 8 Percent classed ∷  -- Fan speed, 5517
    -- 6.17.5 HEAT_PUMP_STATUS
    row 0x1FF9B 0 8 Other classed ∷  -- Instance, 5511
    row 0x1FF9B 8 8 Other classed ∷  -- Operating mode, 5512
    row 0x1FF9B 16 8 Percent classed ∷  -- Max heat output level, 5513
    row 0x1FF9B 24 8 Percent classed ∷  -- Heat output level, 5514
    row 0x1FF9B 32 8 Other classed ∷  -- Dead band, 5515
    row 0x1FF9B 40 8 Other classed ∷  -- Second stage dead band, 5516
    row 0x1FF9B 48 8 Percent classed ∷  -- Fan speed, 5517
    -- 6.16.11 THERMOSTAT_AMBIENT_STATUS
    row 0x1FF9C 0 8 Other classed ∷  -- Instance, 5217
    row 0x1FF9C 8 16 Celsius classed ∷  -- Ambient temp, 5218
    -- 6.29.3 WATER_PUMP_COMMAND
    row 0x1FFB2 0 2 Other two_state ∷  -- Command, 9771
    row 0x1FFB2 8 16 Other classed ∷  -- Pump pressure setting, 9772
    row 0x1FFB2 24 16 Other classed ∷  -- Regulator pressure setting, 9773
    -- 6.29.2 WATER_PUMP_STATUS
    row 0x1FFB3 0 2 Other two_state ∷  -- Operating status, 9744
    row 0x1FFB3 2 2 Other two_state ∷  -- Pump status, 9745
    row 0x1FFB3 4 2 Other two_state ∷  -- Water hookup detected, 9746
    row 0x1FFB3 8 16 Other classed ∷  -- Current system pressure, 9747
    row 0x1FFB3 24 16 Other classed ∷  -- Pump pressure setting, 9748
    row 0x1FFB3 40 16 Other classed ∷  -- Regulator pressure setting, 9749
    row 0x1FFB3 56 8 Ampere classed ∷  -- Operating current, 9750
    -- 6.28.3 TANK_CALIBRATION_COMMAND
    row 0x1FFB6 0 8 Other classed ∷  -- Instance, 9638
    row 0x1FFB6 8 8 Other classed ∷  -- Relative level, 9639
    row 0x1FFB6 16 8 Other classed ∷  -- Resolution, 9640
    row 0x1FFB6 24 16 Other classed ∷  -- Absolute level, 9641
    row 0x1FFB6 40 16 Other classed ∷  -- Tank size, 9642
    -- 6.28.2 TANK_STATUS
    row 0x1FFB7 0 8 Other classed ∷  -- Instance, 9609
    row 0x1FFB7 8 8 Other classed ∷  -- Relative level, 9610
    row 0x1FFB7 16 8 Other classed ∷  -- Resolution, 9611
    row 0x1FFB7 24 16 Other classed ∷  -- Absolute level, 9612
    row 0x1FFB7 40 16 Other classed ∷  -- Tank size, 9613
    -- 6.20.27 CHARGEROPS_STATUS
    row 0x1FFC0 0 8 Other classed ∷  -- Instance, 7252
    row 0x1FFC0 8 8 Other classed ∷  -- Total instance count, 7253
    row 0x1FFC0 16 16 Volt classed ∷  -- Voltage, 7254
    row 0x1FFC0 32 16 Ampere classed ∷  -- Current, 7255
    row 0x1FFC0 48 8 Celsius classed ∷  -- Temperature, 7256
    -- 6.20.26 CHARGERDCBUS_STATUS
    row 0x1FFC1 0 8 Other classed ∷  -- Instance, 7252
    row 0x1FFC1 8 8 Other classed ∷  -- Total instance count, 7253
    row 0x1FFC1 16 16 Volt classed ∷  -- Voltage, 7254
    row 0x1FFC1 32 16 Ampere classed ∷  -- Current, 7255
    row 0x1FFC1 48 8 Celsius classed ∷  -- Temperature, 7256
    -- 6.20.13 CHARGER_CONFIGURATION_COMMAND
    row 0x1FFC4 0 8 Other classed ∷  -- Instance, 7780
    row 0x1FFC4 8 8 Other classed ∷  -- Charging algorithm, 7781
    row 0x1FFC4 16 8 Other classed ∷  -- Charger mode, 7782
    row 0x1FFC4 24 2 Other two_state ∷  -- Battery sensor present, 7783
    row 0x1FFC4 26 2 Other two_state ∷  -- Charger Installation Line, 7784
    row 0x1FFC4 32 16 Other classed ∷  -- Battery bank size, 7786
    row 0x1FFC4 48 4 Other classed ∷  -- Battery type, 7787
    row 0x1FFC4 56 8 Ampere classed ∷  -- Maximum charging current, 7788
    -- 6.20.12 CHARGER_COMMAND
    row 0x1FFC5 0 8 Other classed ∷  -- Instance, 7749
    row 0x1FFC5 8 8 Other classed ∷  -- Status, 7750
    row 0x1FFC5 16 2 Other two_state ∷  -- Default state on power-up, 7751
    row 0x1FFC5 18 2 Other two_state ∷  -- Auto recharge enable, 7752
    row 0x1FFC5 20 4 Other classed ∷  -- Force charge, 7753
    row 0x1FFC5 24 16 Volt classed ∷  -- Control Voltage for CC/CV Mode, 7754
    row 0x1FFC5 40 16 Ampere classed ∷  -- Control Current for CC/CV Mode, 7757
    -- 6.20.11 CHARGER_CONFIGURATION_STATUS
    row 0x1FFC6 0 8 Other classed ∷  -- Instance, 7717
    row 0x1FFC6 8 8 Other classed ∷  -- Charging algorithm, 7718
    row 0x1FFC6 16 8 Other classed ∷  -- Charger mode, 7719
    row 0x1FFC6 24 2 Other two_state ∷  -- Battery sensor present, 7720
    row 0x1FFC6 26 2 Other two_state ∷  -- Charger Installation Line, 7721
    row 0x1FFC6 28 4 Other classed ∷  -- Battery type, 7724
    row 0x1FFC6 32 16 Other classed ∷  -- Battery bank size, 7725
    row 0x1FFC6 48 16 Ampere classed ∷  -- Maximum charging current, 7726
    -- 6.20.8 CHARGER_STATUS
    row 0x1FFC7 0 8 Other classed ∷  -- Instance, 7637
    row 0x1FFC7 8 16 Volt classed ∷  -- Charge voltage, 7638
    row 0x1FFC7 24 16 Ampere classed ∷  -- Charge current, 7639
    row 0x1FFC7 40 8 Percent classed ∷  -- Charge current percent of maximum, 7640
    row 0x1FFC7 48 8 Other classed ∷  -- Operating state, 7641
    row 0x1FFC7 56 2 Other two_state ∷  -- Default state on power-up, 7642
    row 0x1FFC7 58 2 Other two_state ∷  -- Auto recharge enable, 7643
    row 0x1FFC7 60 4 Other classed ∷  -- Force charge, 7644
    -- 6.20.5 CHARGER_AC_STATUS_3
    row 0x1FFC8 0 8 Other classed ∷  -- Instance, 1336
    row 0x1FFC8 8 2 Other two_state ∷  -- Waveform, 1337
    row 0x1FFC8 16 16 Other classed ∷  -- Real power, 1339
    row 0x1FFC8 32 16 Other classed ∷  -- Reactive power, 1340
    row 0x1FFC8 48 8 Percent classed ∷  -- Harmonic distortion, 1341
    row 0x1FFC8 56 8 Other classed ∷  -- Complementary Leg, 1342
    -- 6.20.4 CHARGER_AC_STATUS_2
    row 0x1FFC9 0 8 Other classed ∷  -- Instance, 1310
    row 0x1FFC9 8 16 Volt classed ∷  -- Peak voltage, 1311
    row 0x1FFC9 24 16 Ampere classed ∷  -- Peak current, 1312
    row 0x1FFC9 40 16 Ampere classed ∷  -- Ground current, 1313
    row 0x1FFC9 56 8 Ampere classed ∷  -- Capacity, 1314
    -- 6.20.3 CHARGER_AC_STATUS_1
    row 0x1FFCA 0 8 Other classed ∷  -- Instance, 1281
    row 0x1FFCA 8 16 Volt classed ∷  -- RMS voltage, 1282
    row 0x1FFCA 24 16 Ampere classed ∷  -- RMS current, 1283
    row 0x1FFCA 40 16 Hertz classed ∷  -- Frequency, 1284
    row 0x1FFCA 56 2 Other two_state ∷  -- Fault – open ground, 1286
    row 0x1FFCA 58 2 Other two_state ∷  -- Fault – open neutral, 1287
    row 0x1FFCA 60 2 Other two_state ∷  -- Fault – reverse polarity, 1288
    row 0x1FFCA 62 2 Other two_state ∷  -- Fault – ground current, 1289
    -- 6.17.4 AIR_CONDITIONER_COMMAND
    row 0x1FFE0 0 8 Other classed ∷  -- Instance, 5432
    row 0x1FFE0 8 8 Other classed ∷  -- Operating mode, 5433
    row 0x1FFE0 16 8 Percent classed ∷  -- Max fan speed, 5434
    row 0x1FFE0 24 8 Percent classed ∷  -- Max air conditioning output level, 5435
    row 0x1FFE0 32 8 Percent classed ∷  -- Fan speed, 5436
    row 0x1FFE0 40 8 Percent classed ∷  -- Air conditioning output level, 5437
    row 0x1FFE0 48 8 Other classed ∷  -- Dead band, 5438
    row 0x1FFE0 56 8 Other classed ∷  -- Second stage dead band, 5439
    -- 6.17.2 AIR_CONDITIONER_STATUS
    row 0x1FFE1 0 8 Other classed ∷  -- Instance, 5432
    row 0x1FFE1 8 8 Other classed ∷  -- Operating mode, 5433
    row 0x1FFE1 16 8 Percent classed ∷  -- Max fan speed, 5434
    row 0x1FFE1 24 8 Percent classed ∷  -- Max air conditioning output level, 5435
    row 0x1FFE1 32 8 Percent classed ∷  -- Fan speed, 5436
    row 0x1FFE1 40 8 Percent classed ∷  -- Air conditioning output level, 5437
    row 0x1FFE1 48 8 Other classed ∷  -- Dead band, 5438
    row 0x1FFE1 56 8 Other classed ∷  -- Second stage dead band, 5439
    -- 6.16.2 THERMOSTAT_STATUS_1
    row 0x1FFE2 0 8 Other classed ∷  -- Instance, 5026
    row 0x1FFE2 8 4 Other classed ∷  -- Operating mode, 5027
    row 0x1FFE2 12 2 Other two_state ∷  -- Fan mode, 5028
    row 0x1FFE2 14 2 Other two_state ∷  -- Schedule mode, 5029
    row 0x1FFE2 16 8 Percent classed ∷  -- Fan speed, 5030
    row 0x1FFE2 24 16 Celsius classed ∷  -- Setpoint temp – Heat, 5031
    row 0x1FFE2 40 16 Celsius classed ∷  -- Setpoint temp – Cool, 5032
    -- 6.14.4 SLIDE_MOTOR_STATUS
    row 0x1FFE5 0 8 Other classed ∷  -- Instance, 4691
    row 0x1FFE5 8 16 Volt classed ∷  -- Voltage, 4692
    row 0x1FFE5 24 8 Ampere classed ∷  -- Current – Motor 1, 4693
    row 0x1FFE5 32 8 Ampere classed ∷  -- Current – Motor 2, 4694
    row 0x1FFE5 40 8 Ampere classed ∷  -- Current – Motor 3, 4696
    row 0x1FFE5 48 8 Ampere classed ∷  -- Current – Motor 4, 4697
    -- 6.14.3 SLIDE_SENSOR_STATUS
    row 0x1FFE6 0 8 Other classed ∷  -- Instance, 4649
    row 0x1FFE6 8 2 Other two_state ∷  -- Slide lock limit switch - Upper front, 4650
    row 0x1FFE6 10 2 Other two_state ∷  -- Slide lock limit switch - Upper rear, 4651
    row 0x1FFE6 12 2 Other two_state ∷  -- Slide lock limit switch - Lower front, 4652
    row 0x1FFE6 14 2 Other two_state ∷  -- Slide lock limit switch - Lower rear, 4653
    row 0x1FFE6 16 2 Other two_state ∷  -- Slide unlock limit switch – Upper front, 4654
    row 0x1FFE6 18 2 Other two_state ∷  -- Slide unlock limit switch - Upper rear, 4655
    row 0x1FFE6 20 2 Other two_state ∷  -- Slide unlock limit switch - Lower front, 4656
    row 0x1FFE6 22 2 Other two_state ∷  -- Slide unlock limit switch - Lower rear, 4657
    row 0x1FFE6 24 2 Other two_state ∷  -- Slide retraction limit switch - Upper front, 4658
    row 0x1FFE6 26 2 Other two_state ∷  -- Slide retraction limit switch - Upper rear, 4659
    row 0x1FFE6 28 2 Other two_state ∷  -- Slide retraction limit switch - Lower front, 4660
    row 0x1FFE6 30 2 Other two_state ∷  -- Slide retraction limit switch - Lower rear, 4661
    row 0x1FFE6 32 2 Other two_state ∷  -- Slide extension limit switch - Upper front, 4662
    row 0x1FFE6 34 2 Other two_state ∷  -- Slide extension limit switch - Upper rear, 4665
    row 0x1FFE6 36 2 Other two_state ∷  -- Slide extension limit switch - Lower front, 4666
    row 0x1FFE6 38 2 Other two_state ∷  -- Slide extension limit switch - Lower rear, 4667
    row 0x1FFE6 40 2 Other two_state ∷  -- Retractable floor limit switch - Up, 4668
    row 0x1FFE6 42 2 Other two_state ∷  -- Retractable floor limit switch - Down, 4669
    row 0x1FFE6 48 2 Other two_state ∷  -- Air seal vacuum switch, 4670
    -- 6.14.2 SLIDE_COMMAND
    row 0x1FFE7 0 8 Other classed ∷  -- Instance, 4622
    row 0x1FFE7 8 2 Other two_state ∷  -- User lock, 4623
    row 0x1FFE7 10 2 Other two_state ∷  -- Air seal deflate, 4624
    row 0x1FFE7 12 2 Other two_state ∷  -- Air seal vacuum, 4625
    row 0x1FFE7 14 2 Other two_state ∷  -- Mechanical lock, 4626
    row 0x1FFE7 16 8 Other classed ∷  -- Direction of movement, 4627
    -- 6.14.1 SLIDE_STATUS
    row 0x1FFE8 0 8 Other classed ∷  -- Instance, 4588
    row 0x1FFE8 8 8 Other classed ∷  -- Motion, 4589
    row 0x1FFE8 16 8 Percent classed ∷  -- Position, 4590
    row 0x1FFE8 24 2 Other two_state ∷  -- Lock status, 4591
    row 0x1FFE8 26 2 Other two_state ∷  -- Unlock status, 4592
    row 0x1FFE8 28 2 Other two_state ∷  -- User lock status, 4593
    row 0x1FFE8 30 2 Other two_state ∷  -- Brake status, 4594
    row 0x1FFE8 32 2 Other two_state ∷  -- Park brake, 4595
    row 0x1FFE8 34 2 Other two_state ∷  -- Leveling jacks, 4596
    row 0x1FFE8 36 2 Other two_state ∷  -- Ignition key, 4597
    row 0x1FFE8 38 2 Other two_state ∷  -- Air seal, 4598
    row 0x1FFE8 40 2 Other two_state ∷  -- Low voltage, 4599
    -- 6.9.3 WATERHEATER_COMMAND
    row 0x1FFF6 0 8 Other classed ∷  -- Instance, 3092
    row 0x1FFF6 8 8 Other classed ∷  -- Operating modes, 3093
    row 0x1FFF6 16 16 Celsius classed ∷  -- Set point temperature, 3096
    row 0x1FFF6 48 4 Other classed ∷  -- Electric Element Level, 3097
    -- 6.9.2 WATERHEATER_STATUS
    row 0x1FFF7 0 8 Other classed ∷  -- Instance, 3057
    row 0x1FFF7 8 8 Other classed ∷  -- Operating modes, 3058
    row 0x1FFF7 16 16 Celsius classed ∷  -- Set point temperature, 3060
    row 0x1FFF7 32 16 Celsius classed ∷  -- Water temperature, 3061
    row 0x1FFF7 48 2 Other two_state ∷  -- Thermostat status, 3062
    row 0x1FFF7 50 2 Other two_state ∷  -- Burner status, 3063
    row 0x1FFF7 52 2 Other two_state ∷  -- AC element status, 3064
    row 0x1FFF7 54 2 Other two_state ∷  -- High temperature limit switch status, 3065
    row 0x1FFF7 56 2 Other two_state ∷  -- Failure to ignite status, 3066
    row 0x1FFF7 58 2 Other two_state ∷  -- AC power failure status, 3067
    row 0x1FFF7 60 2 Other two_state ∷  -- DC power failure status, 3068
    row 0x1FFF7 62 2 Other two_state ∷  -- DC power warning status, 3069
    []
