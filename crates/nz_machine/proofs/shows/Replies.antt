-- What the rules of requests and releases send is what the states before and after show.
use Rattle.std.proofs.Common.{◌≡◌, ℕ, ◌+◌, ◌-◌, ◌<◌, ◌&&◌, not, eqb, Bool, true, false, cond, List, [], ◌∷◌, ◌++◌, length}
use Rattle.std.proofs.Common.{Option, Some, None, refl, sym, ap, subst, ◌∙◌, arith, ltb-true, append_assoc, length-append}
use Rattle.std.specs.Prelude.{slice_get, nat_lt, min}
use Rattle.std.specs.Map.{lookup}
use Rattle.std.proofs.lemmas.Bool.{not-true, and_parts, cond_both}
use Rattle.nz_base.specs.Prefixes.{IsPrefix}
use Rattle.nz_base.specs.Cluster.{leader_of}
use Rattle.nz_base.specs.declared.key.Id.{Id}
use Rattle.nz_base.specs.declared.key.Entry.{Entry}
use Rattle.nz_base.specs.Key.{id_eq, id_of}
use Rattle.nz_base.specs.Log.{keys_of, HaveOwnIds}
use Rattle.nz_base.proofs.Logs.{own_in_prefix, keys_append}
use Rattle.nz_base.proofs.Prefixes.{prefix_self, prefix_more, prefix_then}
use Rattle.nz_base.specs.declared.limits.TheConstants.{VIEW_TIMEOUT_TICKS}
use Rattle.nz_store.specs.declared.command.Answer.{Answer}
use Rattle.nz_log.specs.Places.{place_of}
use Rattle.nz_log.specs.Synced.{Log}
use Rattle.nz_msg.specs.declared.message.TimedBody.{TimedBody}
use Rattle.nz_machine.proofs.runs.Due.{entries_appended}
use Rattle.nz_machine.specs.declared.data.Origin.{Origin}
use Rattle.nz_machine.specs.declared.data.Status.{Status}
use Rattle.nz_machine.specs.declared.data.Status.TheVariants.{Normal, ViewChange, Rejoining, Down}
use Rattle.nz_machine.specs.rules.State.{ReplicaData, Out}
use Rattle.nz_machine.specs.rules.Replicas.{is_normal, is_changing, is_up, is_rejoining, leads, fast_replies, slow_replies}
use Rattle.nz_machine.specs.rules.Requests.{with_origin, replies_at, after_timed, after_new_request, request_rule}
use Rattle.nz_machine.specs.rules.Releases.{results_with_entry, after_release, release_replies, may_release, releases, at_clock, release_rule}
use Rattle.nz_machine.specs.rules.LogMods.{log_mods_to_others}
use Rattle.nz_machine.specs.rules.Views.{enter_view}
use Rattle.nz_machine.specs.rules.Step.{mode_timer, tick_rule}
use Rattle.nz_machine.specs.runs.Hearing.{Heard}
use Rattle.nz_machine.specs.runs.Shows.{ReplicaShows}
use Rattle.nz_machine.proofs.lists.EachItem.{all_append}
use Rattle.nz_machine.proofs.lists.LogPlaces.{get_kept, place_kept, place_within, digest_kept, place_at_end}
use Rattle.nz_machine.proofs.shows.Shows.{AllShow, Shown, silent, log_mods_show}
use Rattle.nz_machine.proofs.shows.ViewsShow.{quiet_shows, change_shows}
use Rattle.nz_machine.proofs.shows.RejoinsShow.{rejoin_shows}
use Rattle.nz_machine.proofs.facts.Guards.{normal_up}

-- what is asked of the state before: no id is there twice in log and early, normal operation is in the last view, and
-- a leader has an answer for each entry
pub record HasAnswers (f me : ℕ) (s : ReplicaData) : Type 0 where
  pub last : is_normal s.status ≡ true → s.last ≡ s.view
  pub own_ids : HaveOwnIds (keys_of (s.log.entries ++ s.early))
  pub count : is_normal s.status ≡ true → leads f me s ≡ true → length s.results ≡ length s.log.entries

-- ---- fast replies

-- a state s of the view in which a record began, and the state t at the record's end
record Later (f me : ℕ) (before s t : ReplicaData) : Type 0 where
  log : IsPrefix s.log.entries t.log.entries
  results : IsPrefix s.results t.results
  vector : s.vector ≡ t.vector
  origin : t.origin ≡ s.origin
  view : s.view ≡ before.view
  last : t.last ≡ before.view
  up : is_up t.status ≡ true
  led : leads f me before ≡ true → (is_normal t.status ≡ true) × (t.view ≡ before.view)

answer_by : (b : Bool) (xs ys : List Answer) (place : ℕ) → IsPrefix xs ys → (b ≡ true → place < length xs)
    → cond b (slice_get xs place) None ≡ cond b (slice_get ys place) None
answer_by true xs ys place p lt = sym (get_kept xs ys place p (lt refl))
answer_by false xs ys place p lt = refl

fast_shows : (f me : ℕ) (heard : Heard) (before s t : ReplicaData) (id : Id) (place : ℕ) (o : Option Origin) → is_normal before.status ≡ true
    → Later f me before s t → place_of s.log.entries id ≡ Some place
    → (leads f me before ≡ true → place < length s.results) → lookup (id_eq id) s.origin ≡ o → AllShow f me heard before t (fast_replies f me s id place o)
fast_shows f me heard before s t id place None normal l at answered known = tt
fast_shows f me heard before s t id place (Some origin) normal l at answered known = (
  record {
    normal = normal;
    view = l.view;
    up = l.up;
    last = l.last;
    vector = l.vector;
    place = place;
    place_is = place_kept s.log.entries t.log.entries id place l.log at;
    digest = sym (digest_kept s.log.entries t.log.entries place (place_within s.log.entries id place at) l.log);
    led = l.led;
    answer =
        ap (λ v. cond (eqb (leader_of f v) me) (slice_get s.results place) None) l.view ∙ answer_by
        (leads f me before) s.results t.results place l.results answered;
    origin = origin;
    known = ap (λ (x : List (Id × Origin)). lookup (id_eq id) x) l.origin ∙ known;
    delay = refl;
    receiver = refl;
  },
  tt,
)

pub slow_shows : (f me : ℕ) (heard : Heard) (before s : ReplicaData) (id : Id) (place : ℕ) (o : Option Origin) → is_normal s.status ≡ true
    → leads f me s ≡ false → place_of s.log.entries id ≡ Some place → place < s.log.synced
    → lookup (id_eq id) s.origin ≡ o → AllShow f me heard before s (slow_replies s id o)
slow_shows f me heard before s id place None normal follows at synced known = tt
slow_shows f me heard before s id place (Some origin) normal follows at synced known = (
  record {
    normal = normal;
    follows = follows;
    place = place;
    place_is = at;
    synced = synced;
    origin = origin;
    known = known;
    receiver = refl;
    read = refl;
  },
  tt,
)

-- ---- requests

pub request_shows : (f me : ℕ) (heard : Heard) (s : ReplicaData) (proxy : ℕ) (b : TimedBody) → HasAnswers f me s
    → Shown f me heard s (request_rule f me s proxy b)
unfolding request_rule
request_shows f me heard s proxy b a =
    cond_both (is_normal s.status) (after_timed f me own b (place_of s.log.entries b.id)) (s, []) (Shown f me heard s)
    (λ normal. found normal (place_of s.log.entries b.id) refl) (λ _. silent f me heard s s)
  where
    own : ReplicaData
    own = with_origin s proxy b

    replies : is_normal s.status ≡ true → (place : ℕ) → place_of s.log.entries b.id ≡ Some place → AllShow f me heard s own (replies_at f me own b.id place)
    replies normal place at =
        let origin = lookup (id_eq b.id) own.origin in
        cond_both (not (leads f me s) && nat_lt place s.log.synced) (slow_replies own b.id origin)
        (fast_replies f me own b.id place origin) (AllShow f me heard s own)
        (λ t.
        let follows = not-true (leads f me s) (and_parts (not (leads f me s)) (nat_lt place s.log.synced) t).0 in
        let synced = ltb-true place s.log.synced (and_parts (not (leads f me s)) (nat_lt place s.log.synced) t).1 in
        slow_shows f me heard s own b.id place origin normal follows at synced refl)
        (λ _. fast_shows f me heard s own own b.id place origin normal
        (record {
          log = prefix_self s.log.entries;
          results = prefix_self s.results;
          vector = refl;
          origin = refl;
          view = refl;
          last = a.last normal;
          up = normal_up s.status normal;
          led = λ _. (normal, refl);
        })
        at (λ lead. let lt = place_within s.log.entries b.id place at in let n = a.count normal lead in omega (arith, lt, n)) refl)

    found : is_normal s.status ≡ true → (o : Option ℕ) → place_of s.log.entries b.id ≡ o → Shown f me heard s (after_timed f me own b o)
    found normal None at = silent f me heard s (after_new_request f me own b)
    found normal (Some place) at = record { shows = replies normal place at }

-- ---- releases

executed_more : (b : Bool) (results : List Answer) (es : List Entry) (e : Entry) → IsPrefix results (results_with_entry b results es e)
executed_more true results es e = prefix_more results _
executed_more false results es e = prefix_self results

executed_one : (b : Bool) (results : List Answer) (es : List Entry) (e : Entry) → b ≡ true → length (results_with_entry b results es e) ≡ length results + 1
executed_one true results es e h = length-append results _
executed_one false results es e h = absurd cc

released_later : (f me : ℕ) (before s t : ReplicaData) (e : Entry) (es : List Entry) → Later f me before (after_release f me s e es) t → Later f me before s t
released_later f me before s t e es l =
    let next = after_release f me s e es in
    record {
      log = prefix_then s.log.entries next.log.entries t.log.entries (record { rest = e ∷ []; whole = entries_appended (leads f me s) s.log e }) l.log;
      results = prefix_then s.results next.results t.results (executed_more (leads f me s) s.results s.log.entries e) l.results;
      vector = l.vector;
      origin = l.origin;
      view = l.view;
      last = l.last;
      up = l.up;
      led = l.led;
    }

releases_later : (f me : ℕ) (before s t : ReplicaData) (es : List Entry) → Later f me before (releases f me s es).0 t → Later f me before s t
unfolding releases
releases_later f me before s t [] l = l
releases_later f me before s t (e ∷ es) l =
    let next = after_release f me s e es in
    cond_both (may_release s e) _ (s, []) (λ (x : ReplicaData × List Out). Later f me before x.0 t → Later f me before s t)
    (λ _ l. released_later f me before s t e es (releases_later f me before next t es l)) (λ _ l. l) l

-- once it is released, an entry is last, and the ids are those of before
released_own : (f me : ℕ) (s : ReplicaData) (e : Entry) (es : List Entry) → HaveOwnIds (keys_of (s.log.entries ++ e ∷ es))
    → HaveOwnIds (keys_of ((after_release f me s e es).log.entries ++ es))
released_own f me s e es own =
    let grown = ap (λ (l : List Entry). l ++ es) (sym (entries_appended (leads f me s) s.log e)) in
    subst (λ (l : List Entry). HaveOwnIds (keys_of l)) (sym (append_assoc s.log.entries (e ∷ []) es) ∙ grown) own

released_stands : (f me : ℕ) (s : ReplicaData) (e : Entry) (es : List Entry) → HaveOwnIds (keys_of ((after_release f me s e es).log.entries ++ es))
    → place_of (after_release f me s e es).log.entries (id_of e.key) ≡ Some (length (after_release f me s e es).log.entries - 1)
released_stands f me s e es own =
    let is = entries_appended (leads f me s) s.log e in
    let entries = (after_release f me s e es).log.entries in
    let own_log = own_in_prefix (keys_of entries) (keys_of es) (subst HaveOwnIds (keys_append entries es) own) in
    let last = place_at_end s.log.entries e (subst (λ (l : List Entry). HaveOwnIds (keys_of l)) is own_log) in
    let long = length-append s.log.entries (e ∷ []) in
    let at : length s.log.entries ≡ length (s.log.entries ++ e ∷ []) - 1 = omega (arith, long) in
    subst (λ (l : List Entry). place_of l (id_of e.key) ≡ Some (length l - 1)) (sym is) (last ∙ ap Some at)

releases_show : (f me : ℕ) (heard : Heard) (before s t : ReplicaData) (es : List Entry) → is_normal before.status ≡ true
    → Later f me before (releases f me s es).0 t → HaveOwnIds (keys_of (s.log.entries ++ es))
    → (leads f me before ≡ true → length s.results ≡ length s.log.entries) → AllShow f me heard before t (releases f me s es).1
unfolding releases
releases_show f me heard before s t [] normal l own answered = tt
releases_show f me heard before s t (e ∷ es) normal l own answered =
    let next = after_release f me s e es in
    cond_both (may_release s e) _ (s, []) (λ (x : ReplicaData × List Out). Later f me before x.0 t → AllShow f me heard before t x.1)
    (λ _ l.
    let now = releases_later f me before next t es l in
    let apart = released_own f me s e es own in
    let at = released_stands f me s e es apart in
    let one : leads f me before ≡ true → length next.results ≡ length next.log.entries = λ lead.
    let more = executed_one (leads f me s) s.results s.log.entries e (ap (λ v. eqb (leader_of f v) me) now.view ∙ lead) in
    let long = ap length (entries_appended (leads f me s) s.log e) ∙ length-append s.log.entries (e ∷ []) in
    let n = answered lead in
    omega (arith, more, long, n) in
    all_append (λ (o : Out). ReplicaShows f me heard before t o.0 o.1) (release_replies f me next e) (releases f me next es).1
    (fast_shows f me heard before next t (id_of e.key) (length next.log.entries - 1) (lookup (id_eq (id_of e.key)) next.origin) normal now at
    (λ lead. let n = one lead in let lt = place_within next.log.entries (id_of e.key) (length next.log.entries - 1) at in omega (arith, lt, n)) refl)
    (releases_show f me heard before next t es normal l apart one))
    (λ _ l. tt) l

-- ---- ticks

-- what a replica does at a tick after its releases
pub mode_shows : (f me : ℕ) (heard : Heard) (before s : ReplicaData) (a : Status) → s.status ≡ a → Shown f me heard before (mode_timer a f me s)
mode_shows f me heard before s Normal is =
    let lead : leads f me s ≡ true → Shown f me heard before (s, log_mods_to_others f me s) = λ lead. log_mods_show f me heard before s
    (ap is_normal is) lead in
    let quiet = quiet_shows f me heard before s in
    grind (arith, lead, quiet)
mode_shows f me heard before s ViewChange is = change_shows f me heard before s (ap is_changing is)
mode_shows f me heard before s Rejoining is = rejoin_shows f me heard before s (ap is_rejoining is)
mode_shows f me heard before s Down is = silent f me heard before s

-- status, view, and last view of normal operation
abbrev pub Mode : Type 0
Mode = Status × (ℕ × ℕ)

abbrev pub mode : ReplicaData → Mode
mode s = (s.status, (s.view, s.last))

releases_mode : (f me : ℕ) (s : ReplicaData) (es : List Entry) → mode (releases f me s es).0 ≡ mode s
unfolding releases
releases_mode f me s [] = refl
releases_mode f me s (e ∷ es) = let rest = releases_mode f me (after_release f me s e es) es in grind (arith, rest)

-- the state in which the releases end, and that after the timer
timer_later : (f me : ℕ) (before t : ReplicaData) (a : Status) → t.status ≡ a → is_normal t.status ≡ true → t.view ≡ before.view → t.last ≡ before.view
    → Later f me before t (mode_timer a f me t).0
unfolding enter_view
timer_later f me before t Normal is normal view last =
    let stay : Later f me before t t = kept t refl refl refl refl last (normal_up t.status normal) (λ _. (normal, view)) in
    let away : leads f me t ≡ false → leads f me before ≡ true → ⊥ = λ no yes. false_true (sym no ∙ ap (λ v. eqb (leader_of f v) me) view ∙ yes) in
    let quiet = record t { quiet = min (t.quiet + 1) VIEW_TIMEOUT_TICKS } in
    let wait : leads f me t ≡ false → Later f me before t quiet = λ no. kept quiet refl refl refl refl last (normal_up t.status normal)
    (λ yes. absurd (away no yes)) in
    let entered = (enter_view f me (t.view + 1) quiet).0 in
    let enter : leads f me t ≡ false → Later f me before t entered = λ no. kept entered refl refl refl refl last refl (λ yes. absurd (away no yes)) in
    grind (arith, stay, wait, enter)
  where
    false_true : false ≡ true → ⊥
    false_true e = absurd cc

    kept : (u : ReplicaData) → u.log ≡ t.log → u.results ≡ t.results → t.vector ≡ u.vector → u.origin ≡ t.origin → u.last ≡ before.view → is_up u.status ≡ true
        → (leads f me before ≡ true → (is_normal u.status ≡ true) × (u.view ≡ before.view)) → Later f me before t u
    kept u log results vector origin end up led = record {
      log = subst (λ (l : Log). IsPrefix t.log.entries l.entries) (sym log) (prefix_self t.log.entries);
      results = subst (λ (l : List Answer). IsPrefix t.results l) (sym results) (prefix_self t.results);
      vector = vector;
      origin = origin;
      view = view;
      last = end;
      up = up;
      led = led;
    }
timer_later f me before t ViewChange is normal view last = absurd cc
timer_later f me before t Rejoining is normal view last = absurd cc
timer_later f me before t Down is normal view last = absurd cc

release_shows : (f me : ℕ) (heard : Heard) (s : ReplicaData) (clock : ℕ) → HasAnswers f me s
    → let t = (release_rule f me s clock).0 in AllShow f me heard s (mode_timer t.status f me t).0 (release_rule f me s clock).1
unfolding release_rule
release_shows f me heard s clock a =
    let now = at_clock s clock in
    cond_both (is_normal s.status)
    (releases f me now s.early) (now, []) (λ (x : ReplicaData × List Out). AllShow f me heard s (mode_timer x.0.status f me x.0).0 x.1)
    (λ normal.
    let same = releases_mode f me now s.early in
    let t = (releases f me now s.early).0 in
    let end = timer_later f me s t t.status refl (ap (λ (x : Mode). is_normal x.0) same ∙ normal) (ap (λ (x : Mode). x.1.0) same)
    (ap (λ (x : Mode). x.1.1) same ∙ a.last normal) in
    releases_show f me heard s now (mode_timer t.status f me t).0 s.early normal end a.own_ids (λ lead. a.count normal lead))
    (λ _. tt)

pub tick_shows : (f me : ℕ) (heard : Heard) (s : ReplicaData) (clock : ℕ) → HasAnswers f me s → Shown f me heard s (tick_rule f me s clock)
tick_shows f me heard s clock a =
    let r = release_rule f me s clock in
    let u = mode_timer r.0.status f me r.0 in
    let Shows = λ (o : Out). ReplicaShows f me heard s u.0 o.0 o.1 in
    record { shows = all_append Shows r.1 u.1 (release_shows f me heard s clock a) (mode_shows f me heard s r.0 r.0.status refl).shows }
