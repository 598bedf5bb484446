-- Noting a reply where it is kept is what the machine's rule does with it.
use Rattle.std.proofs.Common.{◌≡◌, ℕ, List, [], ◌∷◌, Option, Some, None, Result, Ok, Err, refl, sym, ap, ◌∙◌, inl, inr}
use Rattle.std.proofs.lemmas.Bool.{cases_Bool}
use Rattle.std.specs.Prelude.{IfOk, OnOk, is_some}
use Rattle.std.specs.Map.{lookup, set_value}
use Rattle.std.specs.Option.{option_map}
use Rattle.indexmap.specs.IndexMap.{insert_entry}
use Rattle.nz_base.specs.declared.key.Id.{Id}
use Rattle.nz_base.specs.Key.{id_eq}
use Rattle.nz_store.specs.declared.command.Answer.{Answer}
use Rattle.nz_msg.specs.declared.message.Path.{Path}
use Rattle.nz_machine.specs.declared.reply.Reply.{Reply}
use Rattle.nz_machine.specs.rules.State.{ProxyData}
use Rattle.nz_machine.specs.rules.State.{Standing as StandingModel}
use Rattle.nz_machine.specs.rules.Quorums.{Chosen, decision, answer_in}
use Rattle.nz_machine.specs.rules.Proxies.{with_standing, after_chosen_answer, after_choice, after_replica_reply}
use Rattle.nz_quorum.specs.Tallies.{TallyData}
use Rattle.nz_proxy.specs.declared.standing.Standing.{Standing}
use Rattle.nz_proxy.specs.declared.standing.Standing.TheVariants.{Open, Decided}
use Rattle.nz_proxy.specs.Standings.{known_standing, known_standings, IsFitStanding, standing_on_path, standing_of_choice, tally_with_reply}
use Rattle.nz_proxy.specs.Standings.{standing_with_reply, answer_on_path, answer_of_choice, answer_after_reply, answers_to_client}
use Rattle.nz_proxy.proofs.Tables.{known_insert, known_lookup, set_is_insert}

-- what a success shows, of two facts of it
pub on_ok : {A E : Type 0} (r : Result A E) (Q : Type 0) (R P : A → Type 0) → OnOk r Q → IfOk r R → (Q → (a : A) → R a → P a) → IfOk r P
on_ok (Ok a) Q R P q h f = f q a h
on_ok (Err e) Q R P q h f = tt

pub ok_map : {A E : Type 0} (r : Result A E) (R P : A → Type 0) → IfOk r R → ((a : A) → R a → P a) → IfOk r P
ok_map (Ok a) R P h f = f a h
ok_map (Err e) R P h f = tt

pub ok_always : {A E : Type 0} (r : Result A E) (P : A → Type 0) → ((a : A) → P a) → IfOk r P
ok_always (Ok a) P f = f a
ok_always (Err e) P f = tt

insert_same : (es : List (Id × StandingModel)) (id : Id) (s : StandingModel) → lookup (id_eq id) es ≡ Some s → insert_entry id_eq es id s ≡ es
insert_same [] id s h = absurd cc
insert_same (e ∷ es) id s h =
    elim (cases_Bool (id_eq id e.0)) [
      | inl here ↦
          let found : Some e.1 ≡ Some s = rw here at h in
          let same : e.1 ≡ s = cc in
          rw here (ap (λ (v : StandingModel). (e.0, v) ∷ es) (sym same))
      | inr away ↦ rw away (ap (λ (rest : List (Id × StandingModel)). e ∷ rest) (insert_same es id s (rw away at h)))
    ]

answers : (s : ProxyData) (id : Id) (tally : TallyData) (path : Path) (a : Option Answer)
    → after_chosen_answer s id tally.replies path a
    ≡ (with_standing s id (known_standing (standing_on_path tally path a)), answers_to_client id (answer_on_path path a))
answers s id tally path None = refl
answers s id tally path (Some a) = refl

decides : (s : ProxyData) (id : Id) (tally : TallyData) (o : Option Chosen)
    → after_choice s id tally.replies o ≡ (with_standing s id (known_standing (standing_of_choice tally o)), answers_to_client id (answer_of_choice o))
decides s id tally None = refl
decides s id tally (Some chosen) = answers s id tally chosen.path (answer_in chosen.reply)

rule_notes : (f : ℕ) (s : ProxyData) (id : Id) (k : Standing) (reply : Reply) → IsFitStanding f k → lookup (id_eq id) s.standings ≡ Some (known_standing k)
    → after_replica_reply f s id reply (Some (known_standing k))
    ≡ (with_standing s id (known_standing (standing_with_reply k reply)), answers_to_client id (answer_after_reply k reply))
rule_notes f s id (Decided a path) reply fit found =
    ap (λ (es : List (Id × StandingModel)). (record s { standings = es }, []))
    (sym (insert_same s.standings id (known_standing (Decided a path)) found))
rule_notes f s id (Open tally) reply fit found =
    let t = tally_with_reply tally reply in
    ap (λ (n : ℕ). after_choice s id t.replies (decision n t.replies)) (sym fit.0) ∙ decides s id t (decision t.f t.replies)

-- the state with other standings
abbrev pub with_all : ProxyData → List (Id × Standing) → ProxyData
with_all s entries = record s { standings = known_standings entries }

pub notes_none : (f : ℕ) (s : ProxyData) (es : List (Id × Standing)) (id : Id) (reply : Reply) → lookup (id_eq id) es ≡ None
    → after_replica_reply f (with_all s es) id reply (lookup (id_eq id) (known_standings es)) ≡ (with_all s es, [])
notes_none f s es id reply h =
    ap (after_replica_reply f (with_all s es) id reply) (sym (known_lookup id es) ∙ ap (option_map known_standing) h)

pub notes_some : (f : ℕ) (s : ProxyData) (es after : List (Id × Standing)) (id : Id) (k new : Standing)
    (reply : Reply) (t : Option (Answer × Path)) → IsFitStanding f k → lookup (id_eq id) es ≡ Some k
    → after ≡ set_value (id_eq id) es new → new ≡ standing_with_reply k reply → t ≡ answer_after_reply k reply
    → after_replica_reply f (with_all s es) id reply (lookup (id_eq id) (known_standings es)) ≡ (with_all s after, answers_to_client id t)
notes_some f s es after id k new reply t fit h is new_is t_is =
    let found : lookup (id_eq id) (known_standings es) ≡ Some (known_standing k) = sym (known_lookup id es) ∙ ap (option_map known_standing) h in
    let there = set_is_insert es id new (ap is_some h) in
    let entries : known_standings after ≡ insert_entry id_eq (known_standings es) id (known_standing (standing_with_reply k reply)) =
    ap known_standings (is ∙ there) ∙ known_insert es id new
    ∙ ap (λ (x : Standing). insert_entry id_eq (known_standings es) id (known_standing x)) new_is in
    ap (after_replica_reply f (with_all s es) id reply) found
    ∙ rule_notes f (with_all s es) id k reply fit found
    ∙ ap (λ (xs : List (Id × StandingModel)). (record s { standings = xs }, answers_to_client id (answer_after_reply k reply))) (sym entries)
    ∙ ap (λ (x : Option (Answer × Path)). (with_all s after, answers_to_client id x)) (sym t_is)
