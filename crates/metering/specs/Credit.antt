-- What an hour record of each built-in kind is worth under a commitment of k kW. Serves src/kind.rt.
use Rattle.std.specs.Prelude.{ℕ, ◌-◌, min, cond, nat_le, nat_lt}
use Rattle.metering.specs.declared.kind.ThermalHour.{ThermalHour}
use Rattle.metering.specs.declared.kind.StorageHour.{StorageHour}
use Rattle.metering.specs.declared.kind.DemandHour.{DemandHour}

-- the declared power, up to the commitment; nothing below the least stable power
abbrev pub thermal_credit : ThermalHour → ℕ → ℕ
thermal_credit h k = cond (nat_lt h.declared h.least) 0 (min k h.declared)

-- the least of commitment, power and stored energy, since a record covers one hour
abbrev pub storage_credit : StorageHour → ℕ → ℕ
storage_credit h k = min (min k h.power) h.stored

-- what is drawn above the residual power, up to the commitment
abbrev pub demand_credit : DemandHour → ℕ → ℕ
demand_credit h k = cond (nat_le h.consumption h.residual) 0 (min k (h.consumption - h.residual))
