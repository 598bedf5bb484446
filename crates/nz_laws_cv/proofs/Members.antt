-- A rejoin ends in no lower view than those in which the replica was Normal, or reported to a begin, before.
use Rattle.std.proofs.Common.{◌≡◌, ℕ, ◌+◌, ◌<◌, ◌≤◌, List, length, ap, inl, inr, arith}
use Rattle.std.proofs.lemmas.Bool.{cases_lt, cases_eq}
use Rattle.nz_base.specs.Moments.{At}
use Rattle.nz_base.proofs.Moments.{at_then, at_shorter}
use Rattle.nz_math.proofs.Upto.{upto}
use Rattle.nz_laws_cv.specs.Notions.{Notions, IsIn}
use Rattle.nz_laws_cv.specs.Ground.{Ground}
use Rattle.nz_laws_cv.proofs.Meeting.{meet}
use Rattle.nz_laws_cv.proofs.Completing.{restart_between, no_higher, later, comes_from}
use Rattle.nz_laws_cv.proofs.Knowing.{cases_same, has_counter, knows_to}

module _ {R : Type 0} (N : Notions R) (J : List R) where
  -- of reports to a begin, for completions of at most n records
  abbrev pub MembersTo : ℕ → Type 0
  MembersTo n = (x w : ℕ) (C B Q : List R) → N.Completes x C → N.Begins w B → N.Reports w B x Q → N.inc x Q < N.inc x C
      → length C ≤ n → w ≤ N.view x C

  -- a member of a begin of w that reported before it answered has told at least w
  passed_on : Ground N J → (n : ℕ) → ((k : ℕ) → k < n → MembersTo k) → (x y w : ℕ) (C B S Q : List R) → N.Completes x C → N.Uses x C y S → N.Begins w B
      → N.Reports w B y Q → length Q < length S → length C ≤ n → w ≤ N.view x C
  passed_on h n ih x y w C B S Q c u b r earlier small =
      let used = (h.completion x C c).answer y S u in
      let begin = h.begin w B b in
      let report = begin.report y Q r in
      let at_q = at_then J B Q begin.at report.at in
      let up_s = used.up in
      let before = used.before in
      let told = used.view in
      let said = report.view in
      elim (cases_same (N.inc y Q) (N.inc y S) (no_higher N J h.modes y Q S at_q used.at (omega (arith, earlier)))) [
        | inl same ↦
            let grew = (later N J h.modes y Q S at_q used.at (omega (arith, earlier)) same report.up up_s).view in
            omega (arith, grew, told, said)
        | inr higher ↦
            let from = comes_from N J h y S used.at up_s (omega (arith, higher)) in
            let C' = from.0 in
            let came = from.1 in
            let same = came.inc in
            let short = at_shorter S C' came.at in
            let reached = ih (length C') (omega (arith, short, before, small)) y w C' B Q came.completes b r (omega (arith, same, higher)) (omega arith) in
            let grew = came.view in
            omega (arith, reached, grew, told)
      ]

  member_step : Ground N J → (n : ℕ) → ((k : ℕ) → k < n → MembersTo k) → MembersTo n
  member_step h n ih x w C B Q c b r lower small =
      let done = h.completion x C c in
      let begin = h.begin w B b in
      let shared = meet N.f (N.Uses x C) (N.Reports w B) done.answers begin.members in
      let y = shared.who in
      let s = shared.early in
      let q = shared.late in
      let used = done.answer y s shared.one in
      let report = begin.report y q shared.other in
      let own = begin.report x Q r in
      let at_q = at_then J B q begin.at report.at in
      let at_own = at_then J B Q begin.at own.at in
      elim (cases_lt (length q) (length s)) [
        | inl lt ↦ passed_on h n ih x y w C B s q c shared.one b shared.other lt small
        | inr le ↦ elim (cases_eq (N.leader w) x) [
          | inl leads ↦ absurd (
              let is : Q ≡ B = own.own leads in
              let inside = used.inside in
              let same = ap (N.inc x) is in
              let restart = restart_between N J h.modes x B s begin.at used.at (omega (arith, same, inside, lower)) in
              let short = at_shorter B q report.at in
              omega (arith, restart, short, le))
          | inr differs ↦ absurd (
              let has = has_counter N J h x y C s q c shared.one at_q report.up le
              (λ higher. (knows_to N J h (length C + length q)).know x y C s q c shared.one at_q report.up higher (omega arith)) in
              let taken = report.merged x differs in
              let fresh = own.fresh in
              let rises = (knows_to N J h (length Q + length C)).rise x Q C at_own done.at own.up (h.modes.normal_up x C done.normal) lower (omega arith) in
              omega (arith, has, taken, fresh, rises))
        ]
      ]

  pub members_to : Ground N J → (n : ℕ) → MembersTo n
  members_to h n = upto MembersTo (member_step h) n

  pub was_normal : Ground N J → (x w : ℕ) (K C : List R) → At J K → IsIn N x w K → N.Completes x C → N.inc x K < N.inc x C → w ≤ N.view x C
  was_normal h x w K C at is c lower = elim (cases_lt 0 w) [
    | inr none ↦ omega (arith, none)
    | inl more ↦
        let found = h.modes.begun x w K at is more in
        let B = found.0 in
        let done = h.completion x C c in
        let begin = h.begin w B found.1 in
        let shared = meet N.f (N.Uses x C) (N.Reports w B) done.answers begin.members in
        let y = shared.who in
        let s = shared.early in
        let q = shared.late in
        let used = done.answer y s shared.one in
        let report = begin.report y q shared.other in
        let inside = used.inside in
        let restart = restart_between N J h.modes x K s at used.at (omega (arith, inside, lower)) in
        let short_b = at_shorter K B found.2 in
        let short_q = at_shorter B q report.at in
        let earlier : length q < length s = omega (arith, restart, short_b, short_q) in
        passed_on h (length C) (λ k lt. members_to h k) x y w C B s q c shared.one found.1 shared.other earlier (omega arith)
  ]
