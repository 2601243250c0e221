-- How a key stores its bytes.
use Rattle.std.specs.Prelude.{ℕ, List, ◌≤◌, ◌<◌, length}
use Rattle.stun_base.specs.declared.keys.key.KeyBytes.{KeyBytes}
use Rattle.stun_base.specs.declared.keys.key.KeyBytes.TheVariants.{Inline, Heap}

-- the bytes, wherever they are stored
abbrev pub key_bytes : {A : Type 0} → KeyBytes A → List ℕ
key_bytes (Inline inline) = inline.items
key_bytes (Heap heap) = heap.items

-- up to 32 bytes are stored inline, and more on the heap
abbrev pub IsInItsPlace : {A : Type 0} → KeyBytes A → Type 0
IsInItsPlace (Inline inline) = length inline.items ≤ 32
IsInItsPlace (Heap heap) = 32 < length heap.items
