-- The requests of a quiet run: whose they are, and when they are due.
use Rattle.std.specs.Prelude.{◌≡◌, ℕ, zero, suc, ◌+◌, ◌*◌, ◌%◌, ◌≤◌, ◌⊎◌, List, [], ◌∷◌, length}
use Rattle.nz_base.specs.declared.key.Entry.{Entry}
use Rattle.nz_base.specs.declared.scenario.Request.{Request}
use Rattle.nz_base.specs.declared.limits.TheConstants.{UNITS_PER_TICK}
use Rattle.nz_machine.specs.rules.State.{Group}

-- The proxy that a client's requests go to.
abbrev pub own_proxy : Group → ℕ → ℕ
own_proxy g c = c % g.proxies

-- The client's script has a request of this number.
abbrev pub HasRequest : List (List Request) → ℕ → ℕ → Type 0
HasRequest [] c num = ⊥
HasRequest (s ∷ ss) zero num = (1 ≤ num) × (num ≤ length s)
HasRequest (s ∷ ss) (suc c) num = HasRequest ss c num

-- The entry is of a request of its client's script.
abbrev pub OfScript : List (List Request) → Entry → Type 0
OfScript ss e = HasRequest ss e.key.client e.key.num

-- The deadline of a request that was sent k ticks ago, with either bound.
abbrev pub IsDeadline : ℕ → ℕ → ℕ → Type 0
IsDeadline t k deadline =
    (deadline + UNITS_PER_TICK * k ≡ UNITS_PER_TICK * (t + 1) + 1500) ⊎ (deadline + UNITS_PER_TICK * k ≡ UNITS_PER_TICK * (t + 1) + 10500)
