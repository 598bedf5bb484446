-- What the function of this folder owes, proved.
use Rattle.std.proofs.Common.{◌≡◌, ℕ, ◌≤◌, ap, sym, subst, ◌∙◌, List, [], Option, Some, None, Result, Ok}
use Rattle.std.specs.Prelude.{IfOk, IfSome, IsSome}
use Rattle.std.specs.List.{AllByRecursion}
use Rattle.std.specs.Map.{lookup}
use Rattle.nz_base.specs.declared.key.Id.{Id}
use Rattle.nz_base.specs.declared.memory.NoMemory.{NoMemory}
use Rattle.nz_base.specs.Key.{id_eq}
use Rattle.nz_store.specs.declared.command.Answer.{Answer}
use Rattle.nz_msg.specs.declared.message.Path.{Path}
use Rattle.nz_msg.specs.Fields.{answer}
use Rattle.nz_machine.specs.rules.State.{ProxyData}
use Rattle.nz_machine.specs.rules.Proxies.{after_replica_reply, standing_of}
use Rattle.nz_quorum.specs.Tallies.{IsOfCluster}
use Rattle.nz_proxy.specs.Models.{ProxyModel, IsKeptProxy}
use Rattle.nz_proxy.specs.declared.standing.Standing.{Standing}
use Rattle.nz_proxy.specs.declared.state.ProxyState.TheInside.{Inside}
use Rattle.nz_proxy.specs.Standings.{IsFitEntry, known_standings, answers_to_client, standing_with_reply, answer_after_reply}
use Rattle.nz_proxy.proofs.Tables.{fit_lookup, fit_set, IsFound}
use Rattle.nz_proxy.proofs.Fitting.{notable, answer_after_reply_fits}
use Rattle.nz_proxy.proofs.Noting.{on_ok, ok_map, ok_always, notes_none, notes_some}
use Rattle.nz_proxy.proofs.state.ProxyState.note.Goals as goal
use Rattle.nz_proxy.proofs.state.ProxyState.note.Goals.{in-None+in-Fast+in-Some+in-Value-1, in-None+in-Fast+in-Some+in-Done-1}
use Rattle.nz_proxy.proofs.state.ProxyState.note.Goals.{in-None+in-Fast+in-None-1, in-None+in-Slow-1, in-Some}

-- what is found in the table
found_in : (f : ℕ) (id : Id) (es : List (Id × Standing)) (s : Standing) → AllByRecursion (IsFitEntry f) es → Some s ≡ lookup (id_eq id) es → IsFound f id s
found_in f id es s all is = subst (λ (o : Option Standing). IfSome o (IsFound f id)) (sym is) (fit_lookup f id es all)

pub note-requires : goal.note-requires
note-requires c =
    let found =
    found_in c.self.inside.cluster c.args.id c.self.inside.standings.entries c.in-Some.standing.now
    c.self.invariant.standings c.in-Some.ensures.value in
    notable c.self.inside.cluster c.in-Some.standing.now c.args.reply found.standing
    (subst (λ (f : ℕ). IsOfCluster f c.args.reply) (sym (ap (λ (s : ProxyModel). s.f) c.self.view_is)) c.requires.reply)

-- ---- where the request is not known, nothing changes

unchanged : (c : goal.Joined-get_mut)
    → c.match-get_mut.self-inside ≡ record c.self.inside { standings = c.get_mut.follows.lender-at-none } → c.match-get_mut.self-inside ≡ c.self.inside
unchanged c is = is ∙ ap (λ m. record c.self.inside { standings = m }) c.get_mut.follows.holds-at-none

kept : (c : goal.Joined-get_mut) → c.match-get_mut.self-inside ≡ c.self.inside
    → IsKeptProxy c.match-get_mut.self-inside.cluster c.match-get_mut.self-inside.me c.match-get_mut.self-inside.clock
    c.match-get_mut.self-inside.window c.match-get_mut.self-inside.standings.entries
kept c is = subst (λ (i : Inside). IsKeptProxy i.cluster i.me i.clock i.window i.standings.entries) (sym is) c.self.invariant

abbrev Outcome : Type 0
Outcome = Result (Option (Answer × Path)) NoMemory

-- what the rule gives, with the answer for the client
abbrev IsRule : (c : goal.Joined-get_mut) → Inside → Option (Answer × Path) → Type 0
IsRule c i given = after_replica_reply c.args.self.now.f c.args.self.now.state c.args.id c.args.reply (standing_of c.args.self.now.state c.args.id)
    ≡ (record { is_down = i.is_down; clock = i.clock; samples = i.window; standings = known_standings i.standings.entries }, answers_to_client c.args.id given)

none_state : (c : goal.Joined-get_mut) → c.match-get_mut.self-inside ≡ c.self.inside
    → c.match-get_mut.result ≡ Ok None → None ≡ lookup (id_eq c.args.id) c.self.inside.standings.entries
    → IfOk c.match-get_mut.result (λ given. IsRule c c.match-get_mut.self-inside given)
none_state c same is none =
    let i = c.self.inside in
    let state : ProxyData = record { is_down = i.is_down; clock = i.clock; samples = i.window; standings = known_standings i.standings.entries } in
    let rule = notes_none i.cluster state i.standings.entries c.args.id c.args.reply (sym none) in
    let now =
    subst (λ (s : ProxyModel). after_replica_reply s.f s.state c.args.id c.args.reply (standing_of s.state c.args.id)
    ≡ (state, [])) c.self.view_is rule in
    subst (λ (r : Outcome). IfOk r (λ given. IsRule c c.match-get_mut.self-inside given)) (sym is)
    (subst (λ (j : Inside). IsRule c j None) (sym same) now)

none_client : (c : goal.Joined-get_mut) → c.match-get_mut.result ≡ Ok None → IfOk c.match-get_mut.result (λ given. IsSome given → c.args.id.client ≤ 63)
none_client c is = subst (λ (r : Outcome). IfOk r (λ given. IsSome given → c.args.id.client ≤ 63)) (sym is) (λ h. absurd cc)

none_fit : (c : goal.Joined-get_mut) → c.match-get_mut.result ≡ Ok None → IfOk c.match-get_mut.result (λ given. IfSome given (λ t. answer.fits t.0))
none_fit c is = subst (λ (r : Outcome). IfOk r (λ given. IfSome given (λ t. answer.fits t.0))) (sym is) tt

-- ---- the clauses

pub invariant_of-self : goal.invariant_of-self
invariant_of-self c =
    elim c.match-get_mut.branch [
      | in-None+in-Fast+in-Some+in-Value-1 w ↦ kept c (unchanged c w.self-inside-is)
      | in-None+in-Fast+in-Some+in-Done-1 w ↦ kept c (unchanged c w.self-inside-is)
      | in-None+in-Fast+in-None-1 w ↦ kept c (unchanged c w.self-inside-is)
      | in-None+in-Slow-1 w ↦ kept c (unchanged c w.self-inside-is)
      | in-Some w ↦
          let i = c.self.inside in
          let found = found_in i.cluster c.args.id i.standings.entries w.in-Some.standing.now c.self.invariant.standings w.in-Some.ensures.value in
          let fit = w.note.ensures.fit i.cluster c.requires.answer found.standing in
          let entries = (c.get_mut.follows.holds w.note.new.self).0 in
          let all =
          subst (λ (es : List (Id × Standing)). AllByRecursion (IsFitEntry i.cluster) es) (sym entries)
          (fit_set i.cluster i.standings.entries c.args.id w.note.new.self fit c.self.invariant.standings) in
          subst (λ (j : Inside). IsKeptProxy j.cluster j.me j.clock j.window j.standings.entries) (sym w.self-inside-is)
          (record { named = c.self.invariant.named; in_time = c.self.invariant.in_time; window = c.self.invariant.window; standings = all })
    ]

pub returns-clause-state : goal.returns-clause-state
returns-clause-state c =
    elim c.match-get_mut.branch [
      | in-None+in-Fast+in-Some+in-Value-1 w ↦ none_state c (unchanged c w.self-inside-is) w.result-is w.in-None.ensures.value
      | in-None+in-Fast+in-Some+in-Done-1 w ↦ none_state c (unchanged c w.self-inside-is) w.result-is w.in-None.ensures.value
      | in-None+in-Fast+in-None-1 w ↦ none_state c (unchanged c w.self-inside-is) w.result-is w.in-None.ensures.value
      | in-None+in-Slow-1 w ↦ none_state c (unchanged c w.self-inside-is) w.result-is w.in-None.ensures.value
      | in-Some w ↦
          let i = c.self.inside in
          let state : ProxyData = record { is_down = i.is_down; clock = i.clock; samples = i.window; standings = known_standings i.standings.entries } in
          let k = w.in-Some.standing.now in
          let found = found_in i.cluster c.args.id i.standings.entries k c.self.invariant.standings w.in-Some.ensures.value in
          let m = c.get_mut.follows.lender w.note.new.self in
          let entries = (c.get_mut.follows.holds w.note.new.self).0 in
          let rule =
          on_ok w.note.result (w.note.new.self ≡ standing_with_reply k c.args.reply)
          (λ t. t ≡ answer_after_reply k c.args.reply) (λ t. IsRule c (record i { standings = m }) t) w.note.ensures.standing w.note.ensures.answer
          (λ new_is t t_is. subst (λ (s : ProxyModel). after_replica_reply s.f s.state c.args.id c.args.reply
          (standing_of s.state c.args.id) ≡ (record state { standings = known_standings m.entries }, answers_to_client c.args.id t)) c.self.view_is
          (notes_some i.cluster state i.standings.entries m.entries c.args.id k w.note.new.self c.args.reply t
          found.standing (sym w.in-Some.ensures.value) entries new_is t_is)) in
          subst (λ (r : Outcome). IfOk r (λ t. IsRule c c.match-get_mut.self-inside t)) (sym w.result-is)
          (subst (λ (j : Inside). IfOk w.note.result (λ t. IsRule c j t)) (sym w.self-inside-is) rule)
    ]

pub returns-clause-client : goal.returns-clause-client
returns-clause-client c =
    elim c.match-get_mut.branch [
      | in-None+in-Fast+in-Some+in-Value-1 w ↦ none_client c w.result-is
      | in-None+in-Fast+in-Some+in-Done-1 w ↦ none_client c w.result-is
      | in-None+in-Fast+in-None-1 w ↦ none_client c w.result-is
      | in-None+in-Slow-1 w ↦ none_client c w.result-is
      | in-Some w ↦
          let i = c.self.inside in
          let found = found_in i.cluster c.args.id i.standings.entries w.in-Some.standing.now c.self.invariant.standings w.in-Some.ensures.value in
          ok_always c.match-get_mut.result (λ t. IsSome t → c.args.id.client ≤ 63) (λ t h. found.client)
    ]

pub returns-clause-fit : goal.returns-clause-fit
returns-clause-fit c =
    elim c.match-get_mut.branch [
      | in-None+in-Fast+in-Some+in-Value-1 w ↦ none_fit c w.result-is
      | in-None+in-Fast+in-Some+in-Done-1 w ↦ none_fit c w.result-is
      | in-None+in-Fast+in-None-1 w ↦ none_fit c w.result-is
      | in-None+in-Slow-1 w ↦ none_fit c w.result-is
      | in-Some w ↦
          let i = c.self.inside in
          let k = w.in-Some.standing.now in
          let found = found_in i.cluster c.args.id i.standings.entries k c.self.invariant.standings w.in-Some.ensures.value in
          let fit = answer_after_reply_fits i.cluster k c.args.reply c.requires.answer found.standing in
          let answer_fit =
          ok_map w.note.result (λ t. t ≡ answer_after_reply k c.args.reply)
          (λ t. IfSome t (λ a. answer.fits a.0)) w.note.ensures.answer
          (λ t is. subst (λ (o : Option (Answer × Path)). IfSome o (λ a. answer.fits a.0)) (sym is) fit) in
          subst (λ (r : Outcome). IfOk r (λ t. IfSome t (λ a. answer.fits a.0))) (sym w.result-is) answer_fit
    ]
