-- A follower whose log is the leader's takes a log modification calmly.
use Rattle.std.proofs.Common.{◌≡◌, ℕ, zero, suc, ◌+◌, ◌-◌, ◌≤◌, ◌⊎◌, Bool, true, false, cond, not, ◌&&◌, eqb, leb, List, [], ◌∷◌, ◌++◌, length, drop}
use Rattle.std.proofs.Common.{replicate}
use Rattle.std.proofs.Common.{refl, sym, ap, subst, ◌∙◌, inl, inr, arith}
use Rattle.std.specs.Prelude.{nat_lt, slice_index, slice_set}
use Rattle.std.specs.List.{filter}
use Rattle.std.proofs.lemmas.Bool.{cond_both, cases_Bool}
use Rattle.std.proofs.lemmas.Bool.Decides.{nat_tests}
use Rattle.std.proofs.lemmas.List.{append-nil, length-drop}
use Rattle.nz_base.specs.Cluster.{replica_count, leader_of}
use Rattle.nz_base.specs.declared.key.Key.{Key}
use Rattle.nz_base.specs.declared.key.Entry.{Entry}
use Rattle.nz_base.specs.Log.{keys_of, has_key, is_above_last, AreRising, HaveOwnIds}
use Rattle.nz_base.proofs.Logs.{has_first, has_later, keys_append, rising_prefix, prefix_below, above_last}
use Rattle.nz_cv.specs.Vectors.{is_stray, greater_counters, merged_vector}
use Rattle.nz_msg.specs.declared.message.LogModBody.{LogModBody}
use Rattle.nz_log.specs.Synced.{unsynced_part}
use Rattle.nz_machine.specs.rules.State.{ReplicaData, Out}
use Rattle.nz_machine.specs.rules.Replicas.{is_normal, is_up, leads, hears_leader}
use Rattle.nz_machine.specs.rules.Vectors.{with_vector, unless_stray}
use Rattle.nz_machine.specs.rules.Views.{enter_view}
use Rattle.nz_machine.specs.rules.LogMods.{sync_keys, sync_report_to, is_still_early, overtaken_to_late, committed_to, replies_since, after_taking_keys}
use Rattle.nz_machine.specs.rules.LogMods.{after_hearing}
use Rattle.nz_machine.specs.rules.LogMods.{after_log_mod, hears_later_leader, log_mod_rule}
use Rattle.nz_quiet.specs.Replicas.{synced_to, IsCalm, IsTakenCalmly, IsOwnLogMod, IsQuietFollower}
use Rattle.nz_quiet.proofs.SameLogs.{sync_same}

-- ---- vectors of no crash

greater_zeros : (n : ℕ) → greater_counters (replicate n 0) (replicate n 0) ≡ replicate n 0
greater_zeros zero = refl
greater_zeros (suc n) = ap (λ (ns : List ℕ). 0 ∷ ns) (greater_zeros n)

zero_at : (n k : ℕ) → slice_index (replicate n 0) k ≡ 0
zero_at zero k = refl
zero_at (suc n) zero = refl
zero_at (suc n) (suc k) = zero_at n k

set_zero : (n k : ℕ) → slice_set {A = ℕ} (replicate n 0) k 0 ≡ replicate n 0
set_zero zero k = refl
set_zero (suc n) zero = refl
set_zero (suc n) (suc k) = ap (λ (ns : List ℕ). 0 ∷ ns) (set_zero n k)

merged_zeros : (n me : ℕ) → merged_vector (replicate n 0) (replicate n 0) me ≡ replicate n 0
merged_zeros n me =
    ap (λ (ns : List ℕ). slice_set ns me (slice_index (replicate n 0) me)) (greater_zeros n)
    ∙ ap (slice_set {A = ℕ} (replicate n 0) me) (zero_at n me) ∙ set_zero n me

never_stray : (n k : ℕ) → is_stray (replicate n 0) k (replicate n 0) ≡ false
never_stray n k = let z = zero_at n k in grind (arith, nat_tests, z)

-- ---- early entries stay early

stay_early : (s : ReplicaData) (es : List Entry) → ((x : Key) → has_key (keys_of es) x ≡ true → is_above_last (keys_of s.log.entries) x ≡ true)
    → (filter (is_still_early s) es ≡ es) × (filter (λ (e : Entry). not (is_still_early s e)) es ≡ [])
stay_early s [] above = (refl, refl)
stay_early s (e ∷ es) above =
    let rest = stay_early s es (λ x h. above x (has_later e.key (keys_of es) x h)) in
    let here : is_still_early s e ≡ true = above e.key (has_first e.key (keys_of es)) in
    let gone : not (is_still_early s e) ≡ false = ap not here in
    (rw here (ap (λ (xs : List Entry). e ∷ xs) rest.0), rw gone rest.1)

early_above : (s : ReplicaData) → AreRising (keys_of (s.log.entries ++ s.early)) → (x : Key) → has_key (keys_of s.early) x ≡ true
    → is_above_last (keys_of s.log.entries) x ≡ true
early_above s rising x h =
    let both = subst AreRising (keys_append s.log.entries s.early) rising in
    above_last (keys_of s.log.entries) x (λ y there. prefix_below (keys_of s.log.entries) (keys_of s.early) y x both there h)

overtaken_same : (s : ReplicaData) → AreRising (keys_of (s.log.entries ++ s.early)) → overtaken_to_late s ≡ s
overtaken_same s rising =
    let t = stay_early s s.early (early_above s rising) in
    let late : s.late ++ filter (λ (e : Entry). not (is_still_early s e)) s.early ≡ s.late =
    ap (λ (xs : List Entry). s.late ++ xs) t.1 ∙ append-nil s.late in
    λ i. record s { early = t.0 i; late = late i }

-- ---- the rule

-- which part of the rule it is
rule_is : (f me : ℕ) (s : ReplicaData) (b : LogModBody) → IsQuietFollower f me s → IsOwnLogMod f s b
    → log_mod_rule f me s 0 b ≡ after_log_mod 0 b (after_hearing s)
unfolding log_mod_rule
rule_is f me s b q own =
    let later : hears_later_leader f s b.view 0 ≡ false =
    ap (λ (v : ℕ). is_up s.status && (nat_lt s.view v && eqb 0 (leader_of f v))) own.view
    ∙ ap (λ (v : ℕ). is_up s.status && (nat_lt v 0 && eqb 0 (leader_of f 0))) q.view ∙ no_and (is_up s.status) in
    let first : leader_of f 0 ≡ 0 = omega arith in
    let hears : hears_leader f me s b.view 0 ≡ true =
    ap (λ (v : ℕ). is_normal s.status && (eqb v s.view && (eqb 0 (leader_of f v) && not (leads f me s)))) own.view
    ∙ ap (λ (v : ℕ). is_normal s.status && (eqb 0 v && (eqb 0 (leader_of f 0) && not (leads f me s)))) q.view
    ∙ ap (λ (k : ℕ). is_normal s.status && (eqb 0 0 && (eqb 0 k && not (leads f me s)))) first
    ∙ ap (λ (x : Bool). is_normal s.status && (eqb 0 0 && (eqb 0 0 && not x))) q.follows
    ∙ ap (λ (x : Bool). x && (eqb 0 0 && (eqb 0 0 && not false))) q.normal in
    let n = replica_count f in
    let go = λ (t : ReplicaData). after_log_mod 0 b (after_hearing t) in
    let stray : is_stray b.vector 0 s.vector ≡ false =
    ap (λ (u : List ℕ). is_stray u 0 s.vector) own.vector ∙ ap (is_stray (replicate n 0) 0) q.vector ∙ never_stray n 0 in
    let merged : with_vector me s b.vector ≡ s =
    let v : merged_vector s.vector b.vector me ≡ s.vector =
    ap (λ (u : List ℕ). merged_vector s.vector u me) own.vector ∙ ap (λ (u : List ℕ). merged_vector u (replicate n 0) me) q.vector
    ∙ merged_zeros n me ∙ sym q.vector in
    λ i. record s { vector = v i } in
    let taken : unless_stray me s 0 b.vector go ≡ go s =
    ap (λ (x : Bool). cond x (s, []) (go (with_vector me s b.vector))) stray ∙ ap go merged in
    let enter = unless_stray me s 0 b.vector (enter_view f me b.view) in
    ap (λ (x : Bool). cond x enter (cond (hears_leader f me s b.view 0) (unless_stray me s 0 b.vector go) (s, []))) later
    ∙ ap (λ (x : Bool). cond x (unless_stray me s 0 b.vector go) (s, [])) hears ∙ taken
  where
    no_and : (a : Bool) → (a && (nat_lt 0 0 && eqb 0 (leader_of f 0))) ≡ false
    no_and true = refl
    no_and false = refl

-- what is left of the keys does not reach further than they do
not_past : (synced start count : ℕ) (keys : List Key) → start ≤ synced → count ≤ synced + length (drop (synced - start) keys)
    → (count ≤ synced) ⊎ ((start ≤ synced) × (count ≤ start + length keys))
not_past synced start count keys le most =
    let long = length-drop (synced - start) keys in
    elim (cases_Bool (leb count synced)) [
      | inl few ↦ inl (grind (arith, nat_tests, few))
      | inr more ↦ inr (le, grind (arith, nat_tests, more, long, most, le))
    ]

pub taken_calmly : (f me : ℕ) (s : ReplicaData) (b : LogModBody) → IsQuietFollower f me s → IsOwnLogMod f s b → IsTakenCalmly s b (log_mod_rule f me s 0 b)
taken_calmly f me s b q own =
    let u = after_hearing s in
    let arranged = q.facts.entries.arranged in
    let rising = rising_prefix (keys_of s.log.entries) (keys_of s.early) (subst AreRising (keys_append s.log.entries s.early) arranged.rising) in
    let own_ids : HaveOwnIds (keys_of (s.log.entries ++ s.early)) =
    subst (λ (xs : List Entry). HaveOwnIds (keys_of (s.log.entries ++ xs)))
    (ap (λ (xs : List Entry). s.early ++ xs) q.none_late ∙ append-nil s.early) arranged.own_ids in
    let calm : IsCalm u = record { rising = rising; own_ids = own_ids; none_late = q.none_late } in
    let keys = drop (s.log.synced - b.start) b.keys in
    subst (IsTakenCalmly s b) (sym (rule_is f me s b q own))
    (cond_both (nat_lt s.log.synced b.start) (u, sync_report_to 0 u ∷ []) (after_taking_keys u 0 b.commit (sync_keys u keys)) (IsTakenCalmly s b)
    (λ _. record { count = s.log.synced; most = inl (omega arith); commit = s.commit; state = refl; sends = inl refl })
    (λ reached.
    let le : b.start ≤ s.log.synced = grind (arith, nat_tests, reached) in
    let t = sync_same u keys (unsynced_part s.log) calm refl (own.keys le) in
    let v = synced_to u t.count in
    let kept : sync_keys u keys ≡ (v, []) = λ i. (t.state i, t.none_missing i) in
    let same : overtaken_to_late v ≡ v = overtaken_same v arranged.rising in
    let after = λ (x : ReplicaData). committed_to x b.commit in
    let ends : ReplicaData → ReplicaData × List Out = λ x. (after x, replies_since (after x) s.log.synced ++ sync_report_to 0 (after x) ∷ []) in
    let done : after_taking_keys u 0 b.commit (v, []) ≡ ends v = ap ends same in
    subst (IsTakenCalmly s b) (sym (ap (after_taking_keys u 0 b.commit) kept ∙ done))
    (record {
      count = t.count;
      most = not_past s.log.synced b.start t.count b.keys le t.most;
      commit = (committed_to v b.commit).commit;
      state = refl;
      sends = inr refl;
    })))
