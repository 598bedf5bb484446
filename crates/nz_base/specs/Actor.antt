-- The order of actors, and the addresses by which frames name them.
use Rattle.std.specs.Prelude.{ℕ, ◌≡◌, ◌+◌, ◌-◌, ◌<◌, ◌≤◌, ◌⊎◌, Bool, false, ◌==◌, ◌&&◌, nat_le, if◌then◌else◌, Option, Some, None}
use Rattle.nz_base.specs.declared.actor.Actor.{Actor}
use Rattle.nz_base.specs.declared.actor.Actor.TheVariants.{Replica, Proxy, Client}
use Rattle.nz_base.specs.declared.limits.TheConstants.{MAX_REPLICA, MAX_PROXY, MAX_CLIENT}

-- Replicas, then proxies, then clients.
abbrev pub sort_of : Actor → ℕ
sort_of (Replica r) = 0
sort_of (Proxy p) = 1
sort_of (Client c) = 2

-- The number of an actor among those of its sort.
abbrev pub number_of : Actor → ℕ
number_of (Replica r) = r
number_of (Proxy p) = p
number_of (Client c) = c

-- One actor comes before another: by sort, then by number.
abbrev pub ActorBelow : Actor → Actor → Type 0
ActorBelow a b = (sort_of a < sort_of b) ⊎ ((sort_of a ≡ sort_of b) × (number_of a < number_of b))

-- Two are the same actor.
abbrev pub actor_eq : Actor → Actor → Bool
actor_eq (Replica a) (Replica b) = a == b
actor_eq (Proxy a) (Proxy b) = a == b
actor_eq (Client a) (Client b) = a == b
actor_eq _ _ = false

-- There are addresses for 9 replicas, 8 proxies and 64 clients.
abbrev pub HasAddress : Actor → Type 0
HasAddress (Replica r) = r ≤ MAX_REPLICA
HasAddress (Proxy p) = p ≤ MAX_PROXY
HasAddress (Client c) = c ≤ MAX_CLIENT

-- Replicas from 0 on, proxies from 16 on, clients from 64 on.
abbrev pub address_of : Actor → ℕ
address_of (Replica r) = r
address_of (Proxy p) = 16 + p
address_of (Client c) = 64 + c

-- A number is one of these, both ends among them.
abbrev pub is_within : ℕ → ℕ → ℕ → Bool
is_within first last n = nat_le first n && nat_le n last

-- The actor at an address, if somebody has it.
abbrev pub actor_at : ℕ → Option Actor
actor_at n =
    if is_within 0 8 n then Some (Replica n)
    else (if is_within 16 23 n then Some (Proxy (n - 16))
    else (if is_within 64 127 n then Some (Client (n - 64)) else None))
