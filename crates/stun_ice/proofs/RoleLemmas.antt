-- The attribute of a role that is added.
use Rattle.std.proofs.Common.{◌≡◌, ℕ, List, Ok, Err, ◌∙◌, sym}
use Rattle.std.specs.Prelude.{OnOk}
use Rattle.std.specs.declared.result.Result.{Result}
use Rattle.byteorder.specs.Endian.{big_bytes}
use Rattle.stun_types.specs.Writing.{with_attribute}
use Rattle.stun_extra.specs.AttributeTypes.{ICE_CONTROLLED, ICE_CONTROLLING}
use Rattle.stun_ice.specs.Agent.{role_attribute}
use Rattle.stun_ice.specs.declared.role.Role.{Role}
use Rattle.stun_ice.specs.declared.role.Role.TheVariants.{Controlling, Controlled}

pub controlling_added : {A E : Type 0} (result : Result A E) (after before : List ℕ) (role : Role)
    (written tie : ℕ) → role ≡ Controlling → written ≡ tie
    → OnOk result (after
    ≡ with_attribute before (record { kind = ICE_CONTROLLING; value = big_bytes 8 written }))
    → OnOk result (after ≡ with_attribute before (role_attribute role tie))
controlling_added (Ok done) after before role written tie is same h =
    h ∙ (λ i. with_attribute before (role_attribute (sym is i) (same i)))
controlling_added (Err error) after before role written tie is same h = tt

pub controlled_added : {A E : Type 0} (result : Result A E) (after before : List ℕ) (role : Role)
    (written tie : ℕ) → role ≡ Controlled → written ≡ tie
    → OnOk result (after
    ≡ with_attribute before (record { kind = ICE_CONTROLLED; value = big_bytes 8 written }))
    → OnOk result (after ≡ with_attribute before (role_attribute role tie))
controlled_added (Ok done) after before role written tie is same h =
    h ∙ (λ i. with_attribute before (role_attribute (sym is i) (same i)))
controlled_added (Err error) after before role written tie is same h = tt
