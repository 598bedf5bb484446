-- Replies of all replicas, all equal, decide a request fast, and replies of that kind decide it in no other way.
use Rattle.std.proofs.Common.{◌≡◌, ℕ, ◌<◌, ◌≤◌, Bool, true, false, cond, ◌&&◌, ◌||◌, eqb, List, [], ◌∷◌, Some, None}
use Rattle.std.proofs.Common.{refl, ap, subst, ◌∙◌, ◌+◌, arith, inl, inr}
use Rattle.std.specs.Prelude.{nat_le}
use Rattle.std.specs.List.{AllByRecursion, list_any}
use Rattle.std.specs.Str.{bytes_eq}
use Rattle.std.proofs.lemmas.Bool.{and_parts, eqb-true, or_right}
use Rattle.std.proofs.lemmas.Bool.Decides.{nat_tests}
use Rattle.std.proofs.lemmas.Slice.Eq.{bytes_eq-Decides}
use Rattle.nz_base.specs.Cluster.{replica_count, slow_size, leader_of}
use Rattle.nz_base.proofs.Booleans.{true_and_false}
use Rattle.nz_math.specs.Count.{count_below, everyone}
use Rattle.nz_math.proofs.Counting.{count_same, count_everyone, count_add, count_none}
use Rattle.nz_store.specs.declared.command.Answer.{Answer}
use Rattle.nz_msg.specs.declared.message.Path.{Path}
use Rattle.nz_msg.specs.declared.message.Path.TheVariants as paths
use Rattle.nz_machine.specs.declared.reply.Reply.{Reply}
use Rattle.nz_machine.specs.rules.Quorums.{is_of_leader, is_slow_of, agrees_of, supports_slowly, supports_fast, has_slow_quorum, has_fast_quorum}
use Rattle.nz_machine.specs.rules.Quorums.{Chosen, decision, answer_in}
use Rattle.nz_machine.specs.runs.World.{Has}
use Rattle.nz_machine.proofs.lists.EachItem.{all_back}
use Rattle.nz_quorum.specs.Tallies.{has_quorum}
use Rattle.nz_quorum.specs.Choices.{HasQuorum}
use Rattle.nz_quorum.proofs.Choosing.{chosen_is_first, quorum_is_fast}
use Rattle.nz_quiet.specs.Replies.{reply_of, IsReply, IsFastChoice}

any_has : (p : Reply → Bool) (xs : List Reply) (x : Reply) → Has xs x → p x ≡ true → list_any p xs ≡ true
any_has p [] x h passes = absurd h
any_has p (y ∷ xs) x (inl same) passes = let here : p y ≡ true = ap p same ∙ passes in rw here refl
any_has p (y ∷ xs) x (inr h) passes = or_right (p y) (list_any p xs) (any_has p xs x h passes)

leads_first : (f : ℕ) → leader_of f 0 ≡ 0
leads_first f = omega arith

agrees_self : (digest vector : List ℕ) (answer : Answer) (r : ℕ) → agrees_of 0 digest vector r (reply_of digest vector answer r) ≡ true
agrees_self digest vector answer r =
    let own : eqb r r ≡ true = grind (arith, nat_tests) in
    let d : bytes_eq digest digest ≡ true = (bytes_eq-Decides digest digest).1 refl in
    let v : bytes_eq vector vector ≡ true = (bytes_eq-Decides vector vector).1 refl in
    rw (own, d, v) refl

module _ (f : ℕ) (digest vector : List ℕ) (answer : Answer) where
  -- the fast reply of a replica
  abbrev reply : ℕ → Reply
  reply r = reply_of digest vector answer r

  abbrev Good : List Reply → Type 0
  Good rs = AllByRecursion (IsReply digest vector answer) rs

  -- ---- fast quorums

  -- where all have replied the leader's reply has a fast quorum
  leads_quorum : (rs : List Reply) → ((r : ℕ) → r < replica_count f → Has rs (reply r)) → has_fast_quorum f rs (reply 0) ≡ true
  leads_quorum rs all =
      let n = replica_count f in
      let each : (r : ℕ) → r < n → supports_fast f rs (reply 0) r ≡ everyone r = λ r lt.
      let any = any_has (agrees_of 0 digest vector r) rs (reply r) (all r lt) (agrees_self digest vector answer r) in
      or_right (eqb r (leader_of f 0)) (list_any (agrees_of 0 digest vector r) rs) any in
      let many : count_below n (supports_fast f rs (reply 0)) ≡ n = count_same n (supports_fast f rs (reply 0)) everyone each ∙ count_everyone n in
      let first = leads_first f in
      grind (arith, nat_tests, many, first)

  -- a good reply with a fast quorum is the leader's
  leads_answer : (rs : List Reply) (y : Reply) → IsReply digest vector answer y → has_fast_quorum f rs y ≡ true → answer_in y ≡ Some answer
  leads_answer rs y good quorum =
      let r = good.replica in
      let now : has_fast_quorum f rs (reply r) ≡ true = subst (λ (x : Reply). has_fast_quorum f rs x ≡ true) good.is quorum in
      let leads = (and_parts _ _ now).0 in
      let is : eqb r (leader_of f 0) ≡ true = (and_parts _ _ leads).0 in
      let zero_is : r ≡ 0 = eqb-true r (leader_of f 0) is ∙ leads_first f in
      ap answer_in good.is ∙ ap (λ (k : ℕ). cond (eqb k 0) (Some answer) None) zero_is

  -- ---- slow quorums

  no_slow : (rs : List Reply) (r : ℕ) → Good rs → list_any (is_slow_of 0 r) rs ≡ false
  no_slow [] r good = refl
  no_slow (y ∷ rs) r good =
      let fast : is_slow_of 0 r y ≡ false = ap (is_slow_of 0 r) good.0.is in
      ap (λ (b : Bool). b || list_any (is_slow_of 0 r) rs) fast ∙ no_slow rs r good.1

  turn : (a b : ℕ) → eqb a b ≡ eqb b a
  turn a b = grind (arith, nat_tests)

  no_and : (a b : Bool) → b ≡ false → (a && b) ≡ false
  no_and true b h = h
  no_and false b h = refl

  -- no good reply has a slow quorum among good ones
  none_slow : (rs : List Reply) (y : Reply) → 1 ≤ f → Good rs → IsReply digest vector answer y → has_slow_quorum f rs y ≡ false
  none_slow rs y least good is =
      let n = replica_count f in
      let r = is.replica in
      let each : (x : ℕ) → x < n → supports_slowly f rs (reply r) x ≡ (eqb 0 x || false) = λ x lt.
      ap (λ (b : Bool). eqb x (leader_of f 0) || b) (no_slow rs x good) ∙ ap (λ (k : ℕ). eqb x k || false) (leads_first f)
      ∙ ap (λ (b : Bool). b || false) (turn x 0) in
      let one : count_below n (λ x. eqb 0 x || false) ≡ count_below n (λ x. false) + 1 = count_add n 0 (λ x. false) (omega arith) refl in
      let zero_count : count_below n (λ x. false) ≡ 0 = count_none n (λ x. false) (λ x lt. refl) in
      let many : count_below n (supports_slowly f rs (reply r)) ≡ count_below n (λ x. eqb 0 x || false) =
      count_same n (supports_slowly f rs (reply r)) (λ x. eqb 0 x || false) each in
      let few : nat_le (slow_size f) (count_below n (supports_slowly f rs (reply r))) ≡ false = grind (arith, nat_tests, many, one, zero_count, least) in
      let none : has_slow_quorum f rs (reply r) ≡ false =
      no_and (is_of_leader f (reply r)) (nat_le (slow_size f) (count_below n (supports_slowly f rs (reply r)))) few in
      ap (has_slow_quorum f rs) is.is ∙ none

  -- ---- the decision

  -- what good replies decide they decide fast
  decided_by : (rs : List Reply) (y : Reply) (path : Path) → 1 ≤ f → Good rs → IsReply digest vector answer y → has_quorum path f rs y ≡ true
      → (path ≡ paths.Fast) × (answer_in y ≡ Some answer)
  decided_by rs y paths.Fast least good own quorum = (refl, leads_answer rs y own quorum)
  decided_by rs y paths.Slow least good own quorum = absurd (true_and_false (has_slow_quorum f rs y) quorum (none_slow rs y least good own))

  pub good_decide : (rs : List Reply) (chosen : Chosen) → 1 ≤ f → Good rs → decision f rs ≡ Some chosen
      → (chosen.path ≡ paths.Fast) × (answer_in chosen.reply ≡ Some answer)
  good_decide rs chosen least good is =
      let first = chosen_is_first f rs chosen is in
      let parts = subst (AllByRecursion (IsReply digest vector answer)) first.noted good in
      let own = (all_back (IsReply digest vector answer) first.before (chosen.reply ∷ first.rest_after) parts).0 in
      decided_by rs chosen.reply chosen.path least good own first.quorum

  -- the replies of all replicas decide
  pub all_decide : (rs : List Reply) → 1 ≤ f → Good rs → ((r : ℕ) → r < replica_count f → Has rs (reply r)) → IsFastChoice answer (decision f rs)
  all_decide rs least good all =
      let quorum : HasQuorum paths.Fast f rs = record { reply = reply 0; noted = all 0 (omega arith); quorum = leads_quorum rs all } in
      let fast = quorum_is_fast f rs quorum in
      record { chosen = fast.0; is = fast.1; fast = fast.2; answered = (good_decide rs fast.0 least good fast.1).1 }
