-- A quorum that was counted by a test on the replicas supports a prefix of the leader's log; and support stays.
use Rattle.std.proofs.Common.{◌≡◌, ℕ, ◌≤◌, Bool, true, ltb, List, ◌∷◌, length, refl, sym, subst, ◌∙◌, arith, inl, inr, ◌⊎◌}
use Rattle.std.proofs.lemmas.Bool.{lt-ltb, and_parts}
use Rattle.std.proofs.lemmas.List.{length-map}
use Rattle.nz_base.specs.declared.key.Key.{Key}
use Rattle.nz_base.specs.declared.key.Entry.{Entry}
use Rattle.nz_base.specs.Moments.{At}
use Rattle.nz_base.specs.Prefixes.{IsPrefix}
use Rattle.nz_base.proofs.Moments.{at_self, at_then}
use Rattle.nz_base.proofs.Prefixes.{prefix_then, prefix_length}
use Rattle.nz_math.specs.Count.{count_below, is_in, IsChoice, members_below}
use Rattle.nz_math.specs.Quorum.{group_size, slow_quorum, fast_quorum}
use Rattle.nz_math.proofs.Counting.{count_same, count_choice, is_in-members, members_choice}
use Rattle.nz_laws_commit.specs.States.{Machine}
use Rattle.nz_laws_commit.specs.Supports.{HadSynced, FastReplied, IsLedAt, Support, keys_at, view_leader}
use Rattle.nz_laws_commit.proofs.RunLaws.{RunLaws}

-- the members of a counted set, as a list
pub record IsCounted (n k : ℕ) (test : ℕ → Bool) (members : List ℕ) : Type 0 where
  pub choice : IsChoice n members
  pub enough : k ≤ length members
  pub each : (y : ℕ) → is_in members y ≡ true → test y ≡ true

-- a test that k numbers pass has k members, in a list without repetition
pub counted : (n k : ℕ) (test : ℕ → Bool) → k ≤ count_below n test → IsCounted n k test (members_below n test)
counted n k test enough =
    let choice = members_choice n test in
    let many = count_choice n (members_below n test) choice in
    let same = count_same n (is_in (members_below n test)) test (λ x lt. let low : ltb x n ≡ true = lt-ltb x n lt in rw (is_in-members n test x, low) refl) in
    record {
      choice = choice;
      enough = omega (arith, enough, many, same);
      each = λ y h. (and_parts (ltb y n) (test y) (sym (is_in-members n test y) ∙ h)).1;
    }

module _ {R : Type 0} (M : Machine R) (J : List R) (h : RunLaws M J) where
  -- a moment at which the leader of v is Normal in v, and its log begins with P
  module _ (v : ℕ) (P : List Key) (K : List R) (led : IsLedAt M v P K J) where
    in_lead : IsPrefix P (M.lead v J)
    in_lead =
        let is = h.lead_is v K led.moment led.normal in
        let grows = subst (λ (l : List Key). IsPrefix l (M.lead v J)) (sym is) (h.lead_grows v K J (at_self J) led.moment) in
        prefix_then P (keys_at M (view_leader M v) K) (M.lead v J) led.holds grows

    leader_had : (y : ℕ) → y ≡ view_leader M v → HadSynced M v y (length P) J
    leader_had y e =
        let long = prefix_length P (keys_at M (view_leader M v) K) led.holds in
        let keys = length-map (M.state (view_leader M v) K).log (λ (x : Entry). x.key) in
        let all = h.leads_synced v K led.moment led.normal in
        subst (λ (x : ℕ). HadSynced M v x (length P) J) (sym e)
        (record { K = K; moment = led.moment; normal = led.normal; enough = omega (arith, long, keys, all) })

    -- what a slow quorum has synced has support
    pub slowly : (test : ℕ → Bool) → slow_quorum M.f ≤ count_below (group_size M.f) test
        → ((y : ℕ) → test y ≡ true → (y ≡ view_leader M v) ⊎ HadSynced M v y (length P) J) → Support M v P J
    slowly test enough each =
        let c = counted (group_size M.f) (slow_quorum M.f) test enough in
        record {
          lead = in_lead;
          quorum = inl (record {
            members = members_below (group_size M.f) test;
            choice = c.choice;
            enough = c.enough;
            each = λ y member. elim (each y (c.each y member)) [ inl leads ↦ leader_had y leads | inr had ↦ had ];
          });
        }

    -- what a fast quorum has synced or replied has support
    pub quickly : (test : ℕ → Bool) → fast_quorum M.f ≤ count_below (group_size M.f) test
        → ((y : ℕ) → test y ≡ true → (y ≡ view_leader M v) ⊎ (HadSynced M v y (length P) J ⊎ FastReplied M v y P (M.state (view_leader M v) K).vector J))
        → Support M v P J
    quickly test enough each =
        let c = counted (group_size M.f) (fast_quorum M.f) test enough in
        record {
          lead = in_lead;
          quorum = inr (record {
            u = (M.state (view_leader M v) K).vector;
            K = K;
            moment = led.moment;
            normal = led.normal;
            vector = refl;
            long = prefix_length P (keys_at M (view_leader M v) K) led.holds;
            members = members_below (group_size M.f) test;
            choice = c.choice;
            enough = c.enough;
            each = λ y member. elim (each y (c.each y member)) [ inl leads ↦ inl (leader_had y leads) | inr support ↦ support ];
          });
        }

  -- ---- support stays as the run goes on

  had_stays : (v y count : ℕ) (L : List R) → At J L → HadSynced M v y count L → HadSynced M v y count J
  had_stays v y count L at had = record { K = had.K; moment = at_then J L had.K at had.moment; normal = had.normal; enough = had.enough }

  over_stays : (v y : ℕ) (P : List Key) (u : List ℕ) (L : List R) → At J L → FastReplied M v y P u L → FastReplied M v y P u J
  over_stays v y P u L at over = record {
    r = over.r;
    K = over.K;
    moment = at_then J L (over.r ∷ over.K) at over.moment;
    actor = over.actor;
    normal = over.normal;
    after = over.after;
    vector = over.vector;
    holds = over.holds;
  }

  pub support_stays : (v : ℕ) (P : List Key) (L : List R) → At J L → Support M v P L → Support M v P J
  support_stays v P L at s =
      record {
        lead = prefix_then P (M.lead v L) (M.lead v J) s.lead (h.lead_grows v L J (at_self J) at);
        quorum = elim s.quorum [
          | inl q ↦ inl (record {
            members = q.members;
            choice = q.choice;
            enough = q.enough;
            each = λ y member. had_stays v y (length P) L at (q.each y member);
          })
          | inr q ↦ inr (record {
            u = q.u;
            K = q.K;
            moment = at_then J L q.K at q.moment;
            normal = q.normal;
            vector = q.vector;
            long = q.long;
            members = q.members;
            choice = q.choice;
            enough = q.enough;
            each = λ y member. elim (q.each y member) [ inl had ↦ inl (had_stays v y (length P) L at had) | inr over ↦ inr (over_stays v y P q.u L at over) ];
          })
        ];
      }
