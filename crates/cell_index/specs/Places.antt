-- Where keys stand: the keys are shared out among buckets, and those of a bucket are linked.
use Rattle.std.specs.Prelude.{◌≡◌, ◌<◌, ◌≤◌, ◌+◌, ◌*◌, ◌/◌, ◌%◌, ◌^◌, ℕ, Bool, nat_eq, List, length}
use Rattle.std.specs.Prelude.{take, slice_get, slice_index, Some}
use Rattle.std.specs.List.{position}
use Rattle.cell_index.specs.Chains.{below, last}
use Rattle.cell_index.specs.Keys.{key_eq}
use Rattle.cell_index.specs.declared.buckets.Buckets.{Buckets}
use Rattle.cell_index.specs.declared.cells.Key.{Key}

-- a number below 2^32 that differs between most sixteens of minutes of a pair
unfoldable pub spread : Key → ℕ
spread key =
    (key.pair * 14029467366897019727 % 2 ^ 64 + key.minute / 16 * 15485863157411823079 % 2 ^ 64)
    % 2 ^ 64 / 2 ^ 32

-- the bucket of a key among so many blocks of sixteen buckets: the minutes of a sixteen have the
-- buckets of one block
unfoldable pub bucket_of : ℕ → Key → ℕ
bucket_of blocks key = spread key * blocks / 2 ^ 32 * 16 + (spread key + key.minute % 16) % 16

-- whether a key is in this bucket
abbrev pub is_in : ℕ → ℕ → Key → Bool
is_in blocks bucket key = nat_eq (bucket_of blocks key) bucket

-- the last key of each bucket is known, and of each key the one before it in its bucket
pub record AreShelved (keys : List Key) (blocks : ℕ) (lasts links : List ℕ) : Type 0 where
  pub ends : (bucket : ℕ) → slice_index lasts bucket ≡ last (is_in blocks bucket) keys
  pub chain : (place : ℕ) (key : Key) → slice_get keys place ≡ Some key →
      slice_index links place ≡ last (is_in blocks (bucket_of blocks key)) (take place keys)
  pub enough : length keys ≤ length links

-- each block has its sixteen buckets
abbrev pub BlocksAreWhole : Buckets → Type 0
BlocksAreWhole buckets = length buckets.lasts.items ≡ 16 * buckets.blocks

-- the keys are in these buckets
abbrev pub AreIn : List Key → Buckets → Type 0
AreIn keys buckets = AreShelved keys buckets.blocks buckets.lasts.items buckets.links.items

-- a place and one more is a `u32`
abbrev pub MOST_KEYS : ℕ
MOST_KEYS = 4294967295

-- each key is found by its bucket, and stands once
pub record ArePlaced (keys : List Key) (buckets : Buckets) : Type 0 where
  pub shelved : AreIn keys buckets
  pub whole : BlocksAreWhole buckets
  pub some : 0 < length keys → 0 < buckets.blocks
  pub once : (key : Key) → position (key_eq key) keys ≡ below (last (key_eq key) keys)
  pub few : length keys ≤ MOST_KEYS
