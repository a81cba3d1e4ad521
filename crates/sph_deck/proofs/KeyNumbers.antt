-- The keys by their numbers.
use Rattle.std.proofs.Common.{◌≡◌, Some, refl}
use Rattle.sph_deck.specs.declared.key.Key.{Key}
use Rattle.sph_deck.specs.declared.key.Key.TheVariants.{Ticks}
use Rattle.sph_deck.specs.Keys.{key_numbered, number_of}

-- a key is that of its number
pub key_numbered-number_of : (key : Key) → key_numbered (number_of key) ≡ Some key
key_numbered-number_of Ticks = refl
key_numbered-number_of _ = refl
