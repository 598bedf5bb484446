-- A view of the machine begins with the merge of the reports of different members.
use Rattle.std.proofs.Common.{◌≡◌, ℕ, ◌≤◌, ◌<◌, true, false, List, [], ◌∷◌, length, map, Option, Some, None, refl, sym, ap, subst, ◌∙◌, inl, inr, arith}
use Rattle.std.specs.List.{AllByRecursion}
use Rattle.std.specs.Option.{option_map}
use Rattle.std.proofs.lemmas.List.{length-map}
use Rattle.std.proofs.lemmas.List.Elements.{All-from_recursion}
use Rattle.std.proofs.lemmas.Option.{none-some, same_Some}
use Rattle.nz_base.specs.Cluster.{leader_of}
use Rattle.nz_base.specs.Log.{keys_of}
use Rattle.nz_base.specs.Moments.{At}
use Rattle.nz_base.specs.declared.key.Key.{Key}
use Rattle.nz_base.specs.declared.key.Entry.{Entry}
use Rattle.nz_base.proofs.Moments.{at_then}
use Rattle.nz_math.specs.Count.{IsChoice}
use Rattle.nz_math.specs.Quorum.{group_size}
use Rattle.nz_merge.specs.declared.report.Report.{Report}
use Rattle.nz_merge.specs.Sender.{senders}
use Rattle.nz_machine.specs.declared.data.CollectedReport.{CollectedReport}
use Rattle.nz_machine.specs.declared.event.Record.{Record}
use Rattle.nz_machine.specs.rules.State.{Group}
use Rattle.nz_machine.specs.rules.Begins.{own_report}
use Rattle.nz_machine.specs.runs.World.{Has, World}
use Rattle.nz_machine.specs.runs.Incarnations.{replica_at}
use Rattle.nz_machine.specs.runs.Leading.{leader_at, is_led}
use Rattle.nz_machine.specs.runs.Begun.{begins, start, IsMemberOf}
use Rattle.nz_machine.proofs.runs.Moments.{at_world}
use Rattle.nz_laws_cv.proofs.OutcomeRules.{changing_up}
use Rattle.nz_laws_cv.proofs.WithinIncarnation.{sound_at}
use Rattle.nz_laws_cv.proofs.Showing.{shows}
use Rattle.nz_laws_cv.proofs.Reports.{reporter}
use Rattle.nz_laws_cv.proofs.Beginnings.{normal_in_is, turning_is, choice_is, full_is}
use Rattle.nz_laws_cv.proofs.BegunLogs.{IsBegunLog, begun_log_is, report_is_read}
use Rattle.nz_laws_cv.proofs.Known.{has_views}
use Rattle.nz_laws_commit.specs.Premises.{CompletesRejoin, IsMemberReport, IsMergeOfReports}
use Rattle.nz_laws_commit.specs.Instance.{logs_of}
use Rattle.nz_laws_commit.proofs.Following.{start_began, completes_by}
use Rattle.nz_laws_commit.proofs.Instance.{normal_status, up_status, normal_up_status, inc_is, start_is}

-- ---- the reports

pub all_reports : (P : Report → Type 0) (xs : List CollectedReport) → ((x : CollectedReport) → Has xs x → P x.report)
    → AllByRecursion P (map (λ (x : CollectedReport). x.report) xs)
all_reports P [] each = tt
all_reports P (x ∷ xs) each = (each x (inl refl), all_reports P xs (λ z has. each z (inr has)))

senders_are : (xs : List CollectedReport) → senders (map (λ (x : CollectedReport). x.report) xs) ≡ map reporter xs
senders_are [] = refl
senders_are (x ∷ xs) = ap (λ (ns : List ℕ). x.report.sender ∷ ns) (senders_are xs)

module _ (g : Group) (J : List Record) (world : World g J) (w : ℕ) (r : Record) (K : List Record) (at : At J (r ∷ K)) (later : 0 < w)
    (led : is_led g w (r ∷ K) ≡ true) (not_led : is_led g w K ≡ false) (begun : begins g w (r ∷ K) ≡ true)
  where
    abbrev B : List Record
    B = r ∷ K

    abbrev l : ℕ
    l = leader_of g.f w

    here : World g B
    here = at_world g J B world at

    log : IsBegunLog g w r K
    log = begun_log_is g w r K here.1 led not_led

    abbrev reports : List Report
    reports = own_report l (leader_at g w K) ∷ map (λ (x : CollectedReport). x.report) (leader_at g w B).reports

    -- a later rejoin of a member ends in no lower view
    no_lower : (x : ℕ) (Q C : List Record) → IsMemberOf g w B x Q → At J C → CompletesRejoin (logs_of g) x C
        → (logs_of g).inc x Q < (logs_of g).inc x C → w ≤ (replica_at g x C).view
    no_lower x Q C member at_c c lower =
        let early = inc_is g x Q in
        let late = inc_is g x C in
        (has_views g J world).member x w C B Q (record { at = at_c; is = completes_by g J world x C c }) (record { at = at; later = later; is = begun }) member
        (omega (arith, lower, early, late))

    own_member : IsMemberReport (logs_of g) w (own_report l (leader_at g w K)) J
    own_member =
        let now = normal_in_is w (leader_at g w B) led in
        record {
          q = B;
          moment = at;
          up = normal_up_status (leader_at g w B).status now.0;
          view = now.1;
          read = K;
          is = inr (r, refl, normal_status (leader_at g w B).status now.0);
          read_up = up_status (leader_at g w K).status log.up;
          last = refl;
          synced = refl;
          log = refl;
          low = log.last;
          later = λ C at_c c lower. no_lower l B C (inl (refl, refl)) at_c c lower;
        }

    other_report : (x : CollectedReport) → Has (leader_at g w B).reports x → IsMemberReport (logs_of g) w x.report J
    other_report x has =
        let sender = x.report.sender in
        let read = report_is_read g w r K here (shows g B here) led not_led x has in
        let Q = read.moment in
        let at_q = at_then J B Q at read.at in
        let low = (sound_at g Q (at_world g B Q here read.at) sender).changing read.changing in
        let view = read.view in
        let last = read.last in
        let up = up_status (replica_at g sender Q).status (changing_up (replica_at g sender Q).status read.changing) in
        record {
          q = Q;
          moment = at_q;
          up = up;
          view = read.view;
          read = Q;
          is = inl refl;
          read_up = up;
          last = sym read.last;
          synced = sym read.synced;
          log = sym read.entries;
          low = omega (arith, low, view, last);
          later = λ C at_c c lower. no_lower sender Q C read.member at_c c lower;
        }

    pub merge_is : (S : List Key) → keys_of (leader_at g w B).log.entries ≡ S → IsMergeOfReports (logs_of g) w S J
    merge_is S is =
        let members : senders reports ≡ l ∷ map reporter (leader_at g w B).reports = ap (λ (ns : List ℕ). l ∷ ns) (senders_are (leader_at g w B).reports) in
        let full = full_is g J w r K here (shows g B here) led not_led in
        let same = ap length members in
        let long = length-map reports (λ (c : Report). c.sender) in
        record {
          reports = reports;
          merged = sym is ∙ ap keys_of log.entries;
          choice = subst (IsChoice (group_size g.f)) (sym members) (choice_is g J w r K here (shows g B here) led not_led);
          size = omega (arith, full, same, long);
          members = All-from_recursion (λ (c : Report). IsMemberReport (logs_of g) w c J) reports
              (own_member, all_reports (λ (c : Report). IsMemberReport (logs_of g) w c J) (leader_at g w B).reports other_report);
        }

-- a view above 0 began with merged reports
pub begins_of : (g : Group) (J : List Record) → World g J → (w : ℕ) (S : List Key) → 0 < w → (logs_of g).start w J ≡ Some S → IsMergeOfReports (logs_of g) w S J
begins_of g J world w S later e = began (start g w J) refl (sym (start_is g w J) ∙ e)
  where
    began : (o : Option (List Entry)) → start g w J ≡ o → option_map keys_of (start g w J) ≡ Some S → IsMergeOfReports (logs_of g) w S J
    began None is e = absurd (none-some S (sym (ap (λ (o : Option (List Entry)). option_map keys_of o) is) ∙ e))
    began (Some T) is e =
        let keys : keys_of T ≡ S = same_Some (keys_of T) S (sym (ap (λ (o : Option (List Entry)). option_map keys_of o) is) ∙ e) in
        let b = start_began g w T J later is in
        let i = turning_is g w b.moment later b.is in
        let at : At J (i.newest ∷ i.older) = subst (At J) i.is b.at in
        let begun : begins g w (i.newest ∷ i.older) ≡ true = subst (λ (x : List Record). begins g w x ≡ true) i.is b.is in
        let log : (leader_at g w (i.newest ∷ i.older)).log.entries ≡ T = subst (λ (x : List Record). (leader_at g w x).log.entries ≡ T) i.is b.log in
        merge_is g J world w i.newest i.older at later i.led i.not_led begun S (ap keys_of log ∙ keys)
