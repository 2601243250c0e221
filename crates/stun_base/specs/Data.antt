-- Bytes that are borrowed or owned.
use Rattle.std.specs.Prelude.{ℕ, List}
use Rattle.stun_base.specs.declared.wire.data.Data.{Data}
use Rattle.stun_base.specs.declared.wire.data.Data.TheVariants.{Borrowed, Owned}

-- the bytes, whoever owns them
abbrev pub data_bytes : {A : Type 0} → Data A → List ℕ
data_bytes (Borrowed bytes) = bytes.now
data_bytes (Owned bytes) = bytes.items

-- the bytes are owned
abbrev pub IsOwned : {A : Type 0} → Data A → Type 0
IsOwned (Borrowed bytes) = ⊥
IsOwned (Owned bytes) = Unit {0}
