-- Crash vectors (Michael et al., DISC 2017) as the lists of their counters: one counter a replica, at
-- the place of its number.
use Rattle.std.specs.Prelude.{◌≡◌, ◌≢◌, ◌↔◌, ◌⊎◌, ℕ, ◌%◌, ◌<◌, ◌≤◌, Bool, nat_lt, List, [], ◌∷◌, length, max, map, slice_index, slice_set, All}
use Rattle.std.specs.List.{zip}

-- The sizes that a cluster may have: 3, 5, 7 and 9.
pub record IsClusterSize (n : ℕ) : Type 0 where
  pub least : 3 ≤ n
  pub most : n ≤ 9
  pub odd : n % 2 ≡ 1

-- Whether a message from sender with the vector u comes from an incarnation before the one that w knows.
abbrev pub is_stray : List ℕ → ℕ → List ℕ → Bool
is_stray u sender w = nat_lt (slice_index u sender) (slice_index w sender)

-- The vector u of sender is stray for the vector w.
abbrev pub Stray : List ℕ → ℕ → List ℕ → Type 0
Stray u sender w = slice_index u sender < slice_index w sender

-- Place by place the greater counter.
abbrev pub greater_counters : List ℕ → List ℕ → List ℕ
greater_counters u v = map (λ pair. max pair.0 pair.1) (zip u v)

-- u with v merged into it by the replica with the number own, whose own counter stays.
abbrev pub merged_vector : List ℕ → List ℕ → ℕ → List ℕ
merged_vector u v own = slice_set (greater_counters u v) own (slice_index u own)

-- No vector of the list makes another one stray for its sender; each is beside its sender.
abbrev pub Consistent : List (ℕ × List ℕ) → Type 0
Consistent list = All (λ a. All (λ b. ¬ Stray a.1 a.0 b.1) list) list

-- A sender beside its vector, both of a cluster of n replicas.
abbrev pub IsFrom : ℕ → ℕ × List ℕ → Type 0
IsFrom n message = (length message.1 ≡ n) × (message.0 < n)

-- All senders and vectors of the list are of one cluster of n replicas.
abbrev pub AreFrom : ℕ → List (ℕ × List ℕ) → Type 0
AreFrom n = All (IsFrom n)

-- Merging never changes the own counter.
abbrev pub OwnStays : Type 0
OwnStays = (u v : List ℕ) (own : ℕ) → length u ≡ length v → own < length u → slice_index (merged_vector u v own) own ≡ slice_index u own

-- Merging lets no counter fall.
abbrev pub NeverFalls : Type 0
NeverFalls = (u v : List ℕ) (own k : ℕ) → length u ≡ length v → own < length u → slice_index u k ≤ slice_index (merged_vector u v own) k

-- What was merged in exceeds the result at the own place alone.
abbrev pub TakesIn : Type 0
TakesIn = (u v : List ℕ) (own k : ℕ) → length u ≡ length v → own < length u → k ≢ own → slice_index v k ≤ slice_index (merged_vector u v own) k

-- Merging takes in nothing else: each counter is one of the two.
abbrev pub AddsNothing : Type 0
AddsNothing = (u v : List ℕ) (own k : ℕ) → length u ≡ length v → own < length u
    → (slice_index (merged_vector u v own) k ≡ slice_index u k) ⊎ (slice_index (merged_vector u v own) k ≡ slice_index v k)

-- Merging the same vector again changes nothing.
abbrev pub Idempotent : Type 0
Idempotent = (u v : List ℕ) (own : ℕ) → length u ≡ length v → own < length u → merged_vector (merged_vector u v own) v own ≡ merged_vector u v own

-- A collector's vector v once the vectors of all these messages are merged into it.
abbrev pub all_merged : List ℕ → List (ℕ × List ℕ) → ℕ → List ℕ
all_merged v [] own = v
all_merged v (message ∷ messages) own = all_merged (merged_vector v message.1 own) messages own

-- The messages are crash-consistent for their collector: once it has merged all of them, none is stray for it.
abbrev pub IsCrashConsistent : List ℕ → List (ℕ × List ℕ) → ℕ → Type 0
IsCrashConsistent v messages own = All (λ m. ¬ Stray m.1 m.0 (all_merged v messages own)) messages

-- Messages of others are crash-consistent exactly where none is stray for another one or for the collector before.
abbrev pub CrashConsistency : Type 0
CrashConsistency = (v : List ℕ) (messages : List (ℕ × List ℕ)) (own : ℕ) → own < length v → AreFrom (length v) messages → All (λ m. m.0 ≢ own) messages
    → IsCrashConsistent v messages own ↔ (Consistent messages × All (λ m. ¬ Stray m.1 m.0 v) messages)
