-- The run of the made-up format, computed.
-- Assumes nothing.
use mathlib.Core.Path.{refl}
use Rattle.places.specs.Tiny.{tiny_asks, tiny_feed, tiny_wait, NineKeysTold, NineKeysAfter, NineKeysPaused}

pub nine_keys_told : NineKeysTold
unfolding tiny_asks tiny_feed tiny_wait
nine_keys_told = refl

pub nine_keys_after : NineKeysAfter
unfolding tiny_asks tiny_feed tiny_wait
nine_keys_after = refl

pub nine_keys_paused : NineKeysPaused
unfolding tiny_asks tiny_feed tiny_wait
nine_keys_paused = (refl, refl)
