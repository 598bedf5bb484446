-- What the function of this folder owes, proved.
use Rattle.std.proofs.Common.{◌≡◌, true, List, length, sym, ap, subst, arith}
use Rattle.std.specs.List.{AllByRecursion}
use Rattle.nz_machine.specs.declared.data.Attempt.{Attempt}
use Rattle.nz_machine.specs.rules.Clients.{is_open}
use Rattle.nz_client.specs.Models.{ClientModel, IsOfProxies}
use Rattle.nz_client.proofs.Windows.{less_open, all_without}
use Rattle.nz_client.proofs.state.ClientState.accept.Goals as goal

pub invariant_of-self : goal.invariant_of-self
invariant_of-self c =
    let k = c.self.invariant in
    let xs : List Attempt = c.self.inside.attempts.items in
    let awaited : is_open c.args.num xs ≡ true =
    subst (λ (model : ClientModel). is_open c.args.num model.state.attempts ≡ true) (sym c.self.view_is) c.requires in
    let less = less_open c.args.num xs awaited in
    let in_turn = k.in_turn in
    let few = k.few in
    let long = ap length c.drop_attempt.ensures in
    record {
      named = k.named;
      some_proxies = k.some_proxies;
      few_proxies = k.few_proxies;
      narrow = k.narrow;
      sendable = k.sendable;
      short = k.short;
      in_script = k.in_script;
      in_turn = omega (arith, less, in_turn, long);
      few = omega (arith, less, few, long);
      of_proxies = subst (λ (l : List Attempt). AllByRecursion (IsOfProxies c.self.inside.proxies) l) (sym c.drop_attempt.ensures)
          (all_without (IsOfProxies c.self.inside.proxies) c.args.num xs k.of_proxies);
    }
