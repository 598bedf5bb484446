-- What the rules of views send is what the states before and after show.
use Rattle.std.proofs.Common.{◌≡◌, ℕ, ◌+◌, eqb, true, false, List, [], ◌++◌, length, map, refl, arith}
use Rattle.std.specs.Prelude.{nat_lt, min}
use Rattle.std.proofs.lemmas.Bool.Decides.{nat_tests}
use Rattle.std.proofs.lemmas.Bool.{cond_both}
use Rattle.nz_base.specs.Cluster.{leader_of}
use Rattle.nz_base.specs.declared.actor.Actor.TheVariants.{Replica}
use Rattle.nz_base.specs.declared.key.Entry.{Entry}
use Rattle.nz_base.specs.declared.limits.TheConstants.{MAX_ENTRIES, VIEW_TIMEOUT_TICKS}
use Rattle.nz_merge.specs.Merged.{merged, greatest}
use Rattle.nz_merge.specs.declared.report.Report.{Report}
use Rattle.nz_msg.specs.declared.message.ViewAskBody.{ViewAskBody}
use Rattle.nz_msg.specs.declared.message.ViewChangeBody.{ViewChangeBody}
use Rattle.nz_msg.specs.declared.message.StartViewBody.{StartViewBody}
use Rattle.nz_machine.specs.declared.data.Status.{Status}
use Rattle.nz_machine.specs.declared.data.Status.TheVariants.{Normal, ViewChange, Rejoining, Down}
use Rattle.nz_machine.specs.rules.State.{ReplicaData, Out}
use Rattle.nz_machine.specs.rules.Replicas.{is_normal, is_changing, is_up, leads, leader, to_others, to_replica}
use Rattle.nz_machine.specs.rules.Vectors.{with_vector}
use Rattle.nz_machine.specs.rules.Views.{in_view_change, view_ask_message, view_change_message, to_leader, view_calls}
use Rattle.nz_machine.specs.rules.Views.{enter_view, alarm_rule, view_ask_rule, quiet_timer, change_timer}
use Rattle.nz_machine.specs.rules.Adopting.{start_view_message, start_view_rule, after_start}
use Rattle.nz_machine.specs.rules.Begins.{with_own_report, after_begin, with_report, without_strays, collect, begin, view_change_rule}
use Rattle.nz_machine.specs.runs.Hearing.{Heard}
use Rattle.nz_machine.specs.runs.Shows.{IsOther, ReplicaShows}
use Rattle.nz_machine.proofs.lists.EachItem.{all_append}
use Rattle.nz_machine.proofs.shows.Shows.{AllShow, Shown, silent, other_is, leader_below, to_each}

-- ---- entering views

asks_show : (f me : ℕ) (heard : Heard) (before s t : ReplicaData) → is_up t.status ≡ true → s.view ≡ t.view
    → AllShow f me heard before t (to_others f me (view_ask_message s))
asks_show f me heard before s t up view =
    to_each f me (λ (o : Out). ReplicaShows f me heard before t o.0 o.1) (λ r. (Replica r, view_ask_message s))
    (λ r other. record { up = up; receiver = other; view = view })

report_shows : (f me : ℕ) (heard : Heard) (before s : ReplicaData) → is_changing s.status ≡ true
    → AllShow f me heard before s (to_leader f me s (view_change_message s))
report_shows f me heard before s changing =
    cond_both (leads f me s) [] (to_replica (leader f s) (view_change_message s)) (AllShow f me heard before s) (λ _. tt)
    (λ away. (
      record {
        changing = changing;
        follows = away;
        receiver = other_is f me (leader f s)
            (leader_below f s.view) away;
        to_leader = refl;
        read = refl;
      },
      tt,
    ))

changing_up : (a : Status) → is_changing a ≡ true → is_up a ≡ true
changing_up ViewChange h = refl
changing_up Normal h = absurd cc
changing_up Rejoining h = absurd cc
changing_up Down h = absurd cc

calls_show : (f me : ℕ) (heard : Heard) (before s : ReplicaData) → is_changing s.status ≡ true → AllShow f me heard before s (view_calls f me s)
calls_show f me heard before s changing =
    all_append (λ (o : Out). ReplicaShows f me heard before s o.0 o.1) (to_others f me (view_ask_message s)) (to_leader f me s (view_change_message s))
    (asks_show f me heard before s s (changing_up s.status changing) refl) (report_shows f me heard before s changing)

pub enter_shows : (f me : ℕ) (heard : Heard) (before : ReplicaData) (view : ℕ) (s : ReplicaData) → Shown f me heard before (enter_view f me view s)
unfolding enter_view
enter_shows f me heard before view s = record { shows = calls_show f me heard before (in_view_change s view) refl }

pub alarm_shows : (f me : ℕ) (heard : Heard) (s : ReplicaData) → Shown f me heard s (alarm_rule f me s)
unfolding alarm_rule
alarm_shows f me heard s =
    let stay = silent f me heard s s in
    let enter = enter_shows f me heard s (s.view + 1) s in
    grind (arith, stay, enter)

pub view_ask_shows : (f me : ℕ) (heard : Heard) (s : ReplicaData) (b : ViewAskBody) → Shown f me heard s (view_ask_rule f me s b)
unfolding view_ask_rule
view_ask_shows f me heard s b =
    let stay = silent f me heard s s in
    let enter = enter_shows f me heard s b.view s in
    grind (arith, stay, enter)

pub start_view_silent : (f me : ℕ) (heard : Heard) (s : ReplicaData) (sender : ℕ) (b : StartViewBody) → Shown f me heard s (start_view_rule f me s sender b)
unfolding start_view_rule
start_view_silent f me heard s sender b =
    let stay = silent f me heard s s in
    let start = silent f me heard s (after_start (with_vector me s b.vector) b) in
    grind (arith, stay, start)

-- ---- begins

begin_shows : (f me : ℕ) (heard : Heard) (before s : ReplicaData) → leads f me s ≡ true → Shown f me heard before (begin f me s)
unfolding begin
begin_shows f me heard before s lead =
    let reports = with_own_report me s in
    let log = merged f reports in
    let begun = after_begin f s log (greatest (map (λ (c : Report). c.commit) reports)) in
    cond_both (nat_lt MAX_ENTRIES (length log)) (s, []) (begun, to_others f me (start_view_message begun)) (Shown f me heard before)
    (λ _. silent f me heard before s)
    (λ _. record {
      shows = to_each f me (λ (o : Out). ReplicaShows f me heard before begun o.0 o.1) (λ r. (Replica r, start_view_message begun))
          (λ r other. record { normal = refl; led = lead; receiver = other; read = refl });
    })

collect_shows : (f me : ℕ) (heard : Heard) (before : ReplicaData) (sender : ℕ) (b : ViewChangeBody) (s : ReplicaData) → leads f me s ≡ true
    → Shown f me heard before (collect f me sender b s)
collect_shows f me heard before sender b s lead =
    let more = with_report s sender b in
    cond_both (eqb (length more.reports) f) (begin f me more) (more, []) (Shown f me heard before) (λ _. begin_shows f me heard before more lead)
    (λ _. silent f me heard before more)

-- the replica is still up in the view
record IsIn (view : ℕ) (s : ReplicaData) : Type 0 where
  up : is_up s.status ≡ true
  same : view ≡ s.view

begin_in : (f me : ℕ) (s : ReplicaData) → is_changing s.status ≡ true → IsIn s.view (begin f me s).0
unfolding begin
begin_in f me s changing =
    let going : IsIn s.view s = record { up = changing_up s.status changing; same = refl } in
    let begun : (log : List Entry) (commit : ℕ) → IsIn s.view (after_begin f s log commit) = λ log commit. record { up = refl; same = refl } in
    grind (arith, going, begun)

collect_in : (f me sender : ℕ) (b : ViewChangeBody) (s : ReplicaData) → is_changing s.status ≡ true → IsIn s.view (collect f me sender b s).0
collect_in f me sender b s changing =
    let more = with_report s sender b in
    cond_both (eqb (length more.reports) f) (begin f me more) (more, []) (λ (t : ReplicaData × List Out). IsIn s.view t.0)
    (λ _. begin_in f me more changing) (λ _. record { up = changing_up s.status changing; same = refl })

-- a view that is entered and collected for, or begun
entered_shows : (f me : ℕ) (heard : Heard) (before : ReplicaData) (sender : ℕ) (b : ViewChangeBody) (s : ReplicaData) → leads f me s ≡ true
    → is_changing s.status ≡ true
    → Shown f me heard before ((collect f me sender b s).0, view_calls f me s ++ (collect f me sender b s).1)
entered_shows f me heard before sender b s lead changing =
    let end = (collect f me sender b s).0 in
    let there = collect_in f me sender b s changing in
    let Shows = λ (o : Out). ReplicaShows f me heard before end o.0 o.1 in
    record {
      shows = all_append Shows (view_calls f me s) (collect f me sender b s).1
          (all_append Shows (to_others f me (view_ask_message s)) (to_leader f me s (view_change_message s))
          (asks_show f me heard before s end there.up there.same)
          (cond_both (leads f me s) [] (to_replica (leader f s) (view_change_message s)) (AllShow f me heard before end) (λ _. tt) (λ away. absurd cc)))
          (collect_shows f me heard before sender b s lead).shows;
    }

up_kinds : (a : Status) → is_up a ≡ true → is_changing a ≡ false → is_normal a ≡ true
up_kinds Normal up h = refl
up_kinds ViewChange up h = absurd cc
up_kinds Rejoining up h = absurd cc
up_kinds Down up h = absurd cc

answer_shows : (f me : ℕ) (heard : Heard) (before : ReplicaData) (sender : ℕ) (s : ReplicaData) → IsOther f me (Replica sender)
    → leads f me s ≡ true → is_normal s.status ≡ true → Shown f me heard before (s, to_replica sender (start_view_message s))
answer_shows f me heard before sender s other lead normal = record { shows = (record { normal = normal; led = lead; receiver = other; read = refl }, tt) }

pub view_change_shows : (f me : ℕ) (heard : Heard) (s : ReplicaData) (sender : ℕ) (b : ViewChangeBody) → IsOther f me (Replica sender)
    → Shown f me heard s (view_change_rule f me s sender b)
unfolding view_change_rule enter_view
view_change_shows f me heard s sender b other =
    let kept = without_strays (with_vector me s b.vector) in
    let stay = silent f me heard s s in
    let anew : eqb (leader_of f b.view) me ≡ true → Shown f me heard s (
      (collect f me sender b (in_view_change kept b.view)).0,
      view_calls f me (in_view_change kept b.view) ++
          (collect f me sender b (in_view_change kept b.view)).1,
    )
    = λ lead. entered_shows f me heard s sender b (in_view_change kept b.view) lead refl in
    let going : leads f me s ≡ true → Shown f me heard s (collect f me sender b kept) = λ lead. collect_shows f me heard s sender b kept lead in
    let answer : leads f me s ≡ true → is_normal s.status ≡ true
    → Shown f me heard s (kept, to_replica sender (start_view_message kept)) = λ lead normal. answer_shows f me heard s sender kept other lead normal in
    grind (arith, nat_tests, stay, anew, going, answer, up_kinds)

-- ---- timers

pub quiet_shows : (f me : ℕ) (heard : Heard) (before s : ReplicaData) → Shown f me heard before (quiet_timer f me s)
quiet_shows f me heard before s =
    let quiet = record s { quiet = min (s.quiet + 1) VIEW_TIMEOUT_TICKS } in
    let stay = silent f me heard before quiet in
    let enter = enter_shows f me heard before (s.view + 1) quiet in
    grind (arith, stay, enter)

pub change_shows : (f me : ℕ) (heard : Heard) (before s : ReplicaData) → is_changing s.status ≡ true → Shown f me heard before (change_timer f me s)
change_shows f me heard before s changing =
    let later = record s { since = s.since + 1 } in
    let anew = record s { since = 0 } in
    let stay = silent f me heard before later in
    let last = silent f me heard before anew in
    let enter = enter_shows f me heard before (s.view + 1) anew in
    let again : Shown f me heard before (later, view_calls f me later) = record { shows = calls_show f me heard before later changing } in
    grind (arith, stay, last, enter, again)
