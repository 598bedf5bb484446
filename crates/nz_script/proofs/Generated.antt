-- What is drawn is a scenario that a text can have.
use Rattle.std.proofs.Common.{◌≡◌, ℕ, zero, suc, ◌+◌, ◌*◌, ◌/◌, ◌%◌, ◌<◌, ◌≤◌, ◌^◌, Bool, true, false, cond, List, [], ◌∷◌, Ok, refl, ap, ◌∙◌, arith, length}
use Rattle.std.specs.Prelude.{◌&&◌, ◌==◌, nat_lt, is_some, sum_by}
use Rattle.std.specs.List.{list_all}
use Rattle.std.proofs.Math.Nat.{mul-le-mul_right}
use Rattle.std.proofs.lemmas.Bool.{eqb-true, and_from, and_parts, le-leb, lt-ltb}
use Rattle.std.proofs.lemmas.List.Sums.{sum_by-cons}
use Rattle.nz_base.specs.declared.scenario.Request.{Request}
use Rattle.nz_base.specs.Cluster.{replica_count}
use Rattle.nz_store.specs.Grammar.{spelling}
use Rattle.nz_store.proofs.Spellings.{reading_from_spells}
use Rattle.nz_script.specs.declared.group.Group.{Group}
use Rattle.nz_script.specs.Draws.{next, draw_after, draws_after, command_for, request_for, requests_for, script_for, scripts_for}
use Rattle.nz_script.specs.Draws.{fault_for, faults_for, scenario_of_seed}
use Rattle.nz_script.specs.Reading.{scenario}
use Rattle.nz_script.specs.Texts.{fault_line, text_of}
use Rattle.nz_script.specs.Valid.{group_of_scenario, is_sound, is_request, are_requests, requests_in_all, has_few, is_short, IsValid, IsRunnable}
use Rattle.nz_script.proofs.Drawing.{command_for_is_valid, length-requests_for}
use Rattle.nz_script.proofs.DrawnTexts.{is_brief, drawn_len, brief_by, scripts_size, faults_size, drawn_size}
use Rattle.nz_script.proofs.RoundTrip.{read_back}
use Rattle.nz_script.proofs.ReadIsPlayable.{read_runnable}

-- ---- requests

-- Whether the request is a command that takes few bytes.
abbrev is_drawn : Request → Bool
is_drawn r = is_request r && is_brief r

request_is_drawn : (x i : ℕ) → i < 2 ^ 64 → is_drawn (request_for x i) ≡ true
request_is_drawn x i small =
    let a = draw_after (next x) % 4 in
    let b = draw_after (next (next x)) % 16 in
    let c = command_for a b i in
    let back = reading_from_spells (spelling c) c (record { valid = command_for_is_valid a b i (omega arith) small; whole = refl }) in
    and_from _ _ (ap is_some back) (brief_by (request_for x i) c refl back (drawn_len a b i (omega arith) small))

requests_are_drawn : (x i n : ℕ) → i + n < 2 ^ 64 → list_all is_drawn (requests_for x i n) ≡ true
requests_are_drawn x i zero small = refl
requests_are_drawn x i (suc n) small =
    and_from _ _ (request_is_drawn x i (omega (arith, small))) (requests_are_drawn (next (next x)) (i + 1) n (omega (arith, small)))

all_of_both : (rs : List Request) → list_all is_drawn rs ≡ true → (are_requests rs ≡ true) × (list_all is_brief rs ≡ true)
all_of_both [] e = (refl, refl)
all_of_both (r ∷ rs) e =
    let p = and_parts (is_drawn r) (list_all is_drawn rs) e in
    let q = and_parts (is_request r) (is_brief r) p.0 in
    let more = all_of_both rs p.1 in
    (and_from _ _ q.0 more.0, and_from _ _ q.1 more.1)

taken_or_not : (p : Request → Bool) (taken : Bool) (r : Request) (rest : List Request) → p r ≡ true → list_all p rest ≡ true
    → list_all p (cond taken (r ∷ rest) rest) ≡ true
taken_or_not p true r rest e h = and_from _ _ e h
taken_or_not p false r rest e h = h

script_has : (p : Request → Bool) (client i : ℕ) (rs : List Request) → list_all p rs ≡ true → list_all p (script_for client i rs) ≡ true
script_has p client i [] e = refl
script_has p client i (r ∷ rs) e =
    let both = and_parts (p r) (list_all p rs) e in
    taken_or_not p (i % 16 == client) r (script_for client (i + 1) rs) both.0 (script_has p client (i + 1) rs both.1)

scripts_have : (p : Request → Bool) (client n : ℕ) (rs : List Request) → list_all p rs ≡ true
    → list_all (λ (script : List Request). list_all p script) (scripts_for client n rs) ≡ true
scripts_have p client zero rs e = refl
scripts_have p client (suc n) rs e = and_from _ _ (script_has p client 0 rs e) (scripts_have p (client + 1) n rs e)

-- ---- how many

-- how many requests the scripts of n clients from this one on have, when i is the number of the first
held : ℕ → ℕ → ℕ → List Request → ℕ
held i client zero rs = 0
held i client (suc n) rs = length (script_for client i rs) + held i (client + 1) n rs

held_is : (client n : ℕ) (rs : List Request) → sum_by length (scripts_for client n rs) ≡ held 0 client n rs
unfolding held
held_is client zero rs = refl
held_is client (suc n) rs =
    sum_by-cons length (script_for client 0 rs) (scripts_for (client + 1) n rs)
    ∙ ap (λ (m : ℕ). length (script_for client 0 rs) + m) (held_is (client + 1) n rs)

-- one of n clients from this one on has the number
owned : ℕ → ℕ → ℕ → ℕ
owned x client zero = 0
owned x client (suc n) = cond (x == client) 1 0 + owned x (client + 1) n

owned_later : (x client n : ℕ) → x < client → owned x client n ≡ 0
unfolding owned
owned_later x client zero low = refl
owned_later x client (suc n) low =
    let more = owned_later x (client + 1) n (omega (arith, low)) in
    grind (arith, low, more)

owned_by : (x client n : ℕ) (own : Bool) → (x == client) ≡ own → owned x (client + 1) n ≤ 1 → cond own 1 0 + owned x (client + 1) n ≤ 1
owned_by x client n true e more =
    let same = eqb-true x client e in
    let none = owned_later x (client + 1) n (omega (arith, same)) in
    omega (arith, none)
owned_by x client n false e more = omega (arith, more)

owned_once : (x client n : ℕ) → owned x client n ≤ 1
unfolding owned
owned_once x client zero = omega arith
owned_once x client (suc n) = owned_by x client n (x == client) refl (owned_once x (client + 1) n)

script_longer : (taken : Bool) (r : Request) (rest : List Request) → length (cond taken (r ∷ rest) rest) ≡ cond taken 1 0 + length rest
script_longer true r rest = omega arith
script_longer false r rest = omega arith

held_more : (i client n : ℕ) (r : Request) (rs : List Request) → held i client n (r ∷ rs) ≡ owned (i % 16) client n + held (i + 1) client n rs
unfolding held owned
held_more i client zero r rs = refl
held_more i client (suc n) r rs =
    let here = script_longer (i % 16 == client) r (script_for client (i + 1) rs) in
    let more = held_more i (client + 1) n r rs in
    omega (arith, here, more)

held_none : (i client n : ℕ) → held i client n [] ≡ 0
unfolding held
held_none i client zero = refl
held_none i client (suc n) = let more = held_none i (client + 1) n in omega (arith, more)

held_few : (i client n : ℕ) (rs : List Request) → held i client n rs ≤ length rs
held_few i client n [] = let none = held_none i client n in omega (arith, none)
held_few i client n (r ∷ rs) =
    let more = held_more i client n r rs in
    let once = owned_once (i % 16) client n in
    let rest = held_few (i + 1) client n rs in
    omega (arith, more, once, rest)

-- ---- faults

faults_long : (count x j n : ℕ) → length (faults_for count x j n) ≡ n
faults_long count x j zero = refl
faults_long count x j (suc n) = ap suc (faults_long count (next (next x)) (j + 1) n)

fault_is_sound : (g : Group) (count x j : ℕ) → g.cluster ≡ 2 → g.proxies ≡ 2 → 1 ≤ count → count ≤ 2000
    → is_sound g (fault_line (fault_for count x j)) ≡ true
fault_is_sound g count x j f proxies some few =
    let from : nat_lt (j % 2) g.proxies ≡ true = lt-ltb (j % 2) g.proxies (omega (arith, proxies)) in
    let to : nat_lt (draw_after (next x) % 5) (replica_count g.cluster) ≡ true = lt-ltb _ _ (omega (arith, ap replica_count f)) in
    let n = 1 + draw_after (next (next x)) % count in
    let place = and_from _ _ (le-leb 1 n (omega arith)) (le-leb n 1000000 (omega (arith, some, few))) in
    and_from _ _ (and_from _ _ from (and_from _ _ to refl)) (and_from _ _ (and_from _ _ refl (and_from _ _ refl (and_from _ _ refl (and_from _ _ place refl)))) refl)

faults_are_sound : (g : Group) (count x j n : ℕ) → g.cluster ≡ 2 → g.proxies ≡ 2 → n ≤ count → count ≤ 2000
    → list_all (λ f. is_sound g (fault_line f)) (faults_for count x j n) ≡ true
faults_are_sound g count x j zero f proxies some few = refl
faults_are_sound g count x j (suc n) f proxies some few =
    and_from _ _ (fault_is_sound g count x j f proxies (omega (arith, some)) few)
    (faults_are_sound g count (next (next x)) (j + 1) n f proxies (omega (arith, some)) few)

-- ---- all of it

product : (a b : ℕ) → a ≤ 2000 → b ≤ 40 → a * b ≤ 200000
product a b h k = let left = mul-le-mul_right b h in omega (arith, left, k)

scripts_long : (client n : ℕ) (rs : List Request) → length (scripts_for client n rs) ≡ n
scripts_long client zero rs = refl
scripts_long client (suc n) rs = ap suc (scripts_long (client + 1) n rs)

pub drawn_valid : (seed count : ℕ) → count ≤ 2000 → IsValid (scenario_of_seed seed count)
drawn_valid seed count few =
    let s = scenario_of_seed seed count in
    let rs = requests_for seed 0 count in
    let both = all_of_both rs (requests_are_drawn seed 0 count (omega (arith, few))) in
    let all = held_is 0 16 rs in
    let held_all = held_few 0 0 16 rs in
    let long = length-requests_for seed 0 count in
    let total : requests_in_all s.scripts ≤ 2000 = omega (arith, few, all, held_all, long) in
    let lost = faults_long count (draws_after count seed) 0 (count / 50) in
    let lacks : length s.faults ≤ 40 = omega (arith, lost, few) in
    let clients = scripts_long 0 16 rs in
    let blocks = scripts_size 0 s.scripts (omega (arith, clients)) (scripts_have is_brief 0 16 rs both.1) in
    let mishaps = faults_size count (draws_after count seed) 0 (count / 50) (omega (arith, few)) (omega (arith, few)) in
    let text = drawn_size s refl refl refl refl refl refl in
    let room : has_few s ≡ true =
    and_from _ _ (and_from _ _ (le-leb (requests_in_all s.scripts) 2000 total) (le-leb (requests_in_all s.scripts * 1000) 2000000 (omega (arith, total))))
    (and_from _ _ (le-leb (length s.faults) 1000 (omega (arith, lacks)))
    (le-leb (requests_in_all s.scripts * length s.faults) 200000 (product (requests_in_all s.scripts) (length s.faults) total lacks))) in
    let sound = faults_are_sound (group_of_scenario s) count (draws_after count seed) 0 (count / 50) refl refl (omega (arith, few)) few in
    let short : is_short s ≡ true = le-leb (length (text_of s)) 1048576 (omega (arith, text, blocks, mishaps, total, clients, few)) in
    and_from _ _ (and_from _ _ (and_from _ _ refl refl) (and_from _ _ (scripts_have is_request 0 16 rs both.0) room)) (and_from _ _ sound short)

pub drawn_read_back : (seed count : ℕ) → count ≤ 2000 → scenario (text_of (scenario_of_seed seed count)) ≡ Ok (scenario_of_seed seed count)
drawn_read_back seed count few = read_back (scenario_of_seed seed count) (drawn_valid seed count few)

pub generated_runnable : (seed count : ℕ) → count ≤ 2000 → IsRunnable (scenario_of_seed seed count)
generated_runnable seed count few = read_runnable (text_of (scenario_of_seed seed count)) (scenario_of_seed seed count) (drawn_read_back seed count few)
