-- The set of those that support a leader's reply, against the counts that define a quorum.
use Rattle.std.proofs.Common.{◌≡◌, ℕ, ◌<◌, Bool, true, false, ◌&&◌, ◌||◌, eqb, nat_le, List, [], ◌∷◌, length}
use Rattle.std.proofs.Common.{refl, sym, ◌∙◌, arith, inl, inr, Option}
use Rattle.std.proofs.Math.Bool.{and-false}
use Rattle.std.specs.List.{list_any, AllByRecursion}
use Rattle.std.proofs.lemmas.Bool.{cases_eq, eq-eqb, ne_eqb, eqb-true, or_cases, and_parts}
use Rattle.nz_base.specs.Cluster.{replica_count, leader_of}
use Rattle.nz_math.specs.Count.{count_below, is_in, IsChoice}
use Rattle.nz_math.proofs.Counting.{count_same, count_of_list}
use Rattle.nz_store.specs.declared.command.Answer.{Answer}
use Rattle.nz_msg.specs.declared.message.Path.{Path}
use Rattle.nz_msg.specs.declared.message.Path.TheVariants as paths
use Rattle.nz_machine.specs.declared.reply.Reply.{Reply}
use Rattle.nz_machine.specs.declared.reply.Reply.TheVariants.{Fast, Slow}
use Rattle.nz_machine.specs.rules.Quorums.{view_of, is_of_leader, is_slow_of, agrees_of, supports_fast, supports_slowly}
use Rattle.nz_quorum.specs.Tallies.{replica_of, IsOfCluster, quorum_size, has_quorum}
use Rattle.nz_quorum.specs.Support.{supports}

-- ---- one step of the loop

pub taken_in : (a b s rest total : Bool) → s ≡ true → (a || ((b && s) || rest)) ≡ total → ((b || a) || rest) ≡ total
taken_in true true s rest total e h = h
taken_in true false s rest total e h = h
taken_in false true s rest total e h = rw e at h
taken_in false false s rest total e h = h

-- ---- the set is the one that is counted

-- this replica sent a reply that supports the lead
abbrev pub backs : Path → Reply → ℕ → Reply → Bool
backs path lead x r = eqb (replica_of r) x && supports path lead r

any_same : {X : Type 0} (p q : X → Bool) (xs : List X) → ((x : X) → p x ≡ q x) → list_any p xs ≡ list_any q xs
any_same p q [] h = refl
any_same p q (x ∷ xs) h = let here = h x in let rest = any_same p q xs h in rw (here, rest) refl

eqb_turn : (a b : ℕ) → eqb a b ≡ eqb b a
eqb_turn a b =
    elim (cases_eq a b) [
      | inl same ↦ eq-eqb a b same ∙ sym (eq-eqb b a (sym same))
      | inr other ↦ ne_eqb a b other ∙ sym (ne_eqb b a (λ e. other (sym e)))
    ]

agrees : (r view : ℕ) (digest vector : List ℕ) (answer : Option Answer) (x : ℕ) (reply : Reply)
    → backs paths.Fast (Fast r view digest vector answer) x reply ≡ agrees_of view digest vector x reply
agrees r view digest vector answer x (Fast s w d u b) = refl
agrees r view digest vector answer x (Slow s w) = refl

is_slow : (r view : ℕ) (digest vector : List ℕ) (answer : Option Answer) (x : ℕ) (reply : Reply)
    → backs paths.Slow (Fast r view digest vector answer) x reply ≡ is_slow_of view x reply
is_slow r view digest vector answer x (Fast s w d u b) = and-false (eqb s x)
is_slow r view digest vector answer x (Slow s w) = refl

-- whether a replica supports the lead in a quorum of this path
abbrev pub stands : Path → ℕ → List Reply → Reply → ℕ → Bool
stands paths.Fast f replies lead = supports_fast f replies lead
stands paths.Slow f replies lead = supports_slowly f replies lead

same_stand : (path : Path) (f : ℕ) (replies : List Reply) (lead : Reply) (x : ℕ) → is_of_leader f lead ≡ true
    → (eqb (leader_of f (view_of lead)) x || list_any (backs path lead x) replies) ≡ stands path f replies lead x
same_stand path f replies (Slow r view) x h = absurd cc
same_stand paths.Fast f replies (Fast r view digest vector answer) x h =
    let turn = eqb_turn (leader_of f view) x in
    let any =
    any_same (backs paths.Fast (Fast r view digest vector answer) x) (agrees_of view digest vector x) replies
    (agrees r view digest vector answer x) in
    rw (turn, any) refl
same_stand paths.Slow f replies (Fast r view digest vector answer) x h =
    let turn = eqb_turn (leader_of f view) x in
    let any = any_same (backs paths.Slow (Fast r view digest vector answer) x) (is_slow_of view x) replies (is_slow r view digest vector answer x) in
    rw (turn, any) refl

any_below : (path : Path) (f : ℕ) (replies : List Reply) (lead : Reply) (x : ℕ)
    → AllByRecursion (IsOfCluster f) replies → list_any (backs path lead x) replies ≡ true → x < replica_count f
any_below path f [] lead x of_cluster h = absurd cc
any_below path f (r ∷ replies) lead x of_cluster h =
    elim (or_cases (backs path lead x r) (list_any (backs path lead x) replies) h) [
      | inl here ↦
          let same = eqb-true (replica_of r) x (and_parts (eqb (replica_of r) x) (supports path lead r) here).0 in
          let below = of_cluster.0.replica in
          omega (arith, same, below)
      | inr later ↦ any_below path f replies lead x of_cluster.1 later
    ]

pub leader_below : (f view : ℕ) → leader_of f view < replica_count f
leader_below f view = omega arith

pub count_supporters : (path : Path) (f : ℕ) (replies : List Reply) (lead : Reply) (set : List ℕ)
    → leader_of f (view_of lead) < replica_count f → AllByRecursion (IsOfCluster f) replies → IsChoice 9 set
    → ((x : ℕ) → is_in set x ≡ (eqb (leader_of f (view_of lead)) x || list_any (backs path lead x) replies)) → is_of_leader f lead ≡ true
    → length set ≡ count_below (replica_count f) (stands path f replies lead)
count_supporters path f replies lead set leader of_cluster choice members leads =
    let below : (x : ℕ) → is_in set x ≡ true → x < replica_count f = λ x here.
    elim (or_cases (eqb (leader_of f (view_of lead)) x) (list_any (backs path lead x) replies) (sym (members x) ∙ here)) [
      | inl first ↦ (let same = eqb-true (leader_of f (view_of lead)) x first in omega (arith, same, leader))
      | inr sender ↦ any_below path f replies lead x of_cluster sender
    ] in
    let listed = count_of_list (replica_count f) set choice.distinct below in
    let counted = count_same (replica_count f) (is_in set) (stands path f replies lead) (λ x lt. members x ∙ same_stand path f replies lead x leads) in
    sym listed ∙ counted

-- a lead has a quorum where enough support it
pub quorum_counts : (path : Path) (f : ℕ) (replies : List Reply) (lead : Reply) → is_of_leader f lead ≡ true
    → nat_le (quorum_size path f) (count_below (replica_count f) (stands path f replies lead)) ≡ has_quorum path f replies lead
quorum_counts paths.Fast f replies lead leads = rw leads refl
quorum_counts paths.Slow f replies lead leads = rw leads refl
