-- What the function of this folder owes, proved.
use Rattle.std.proofs.Common.{sym, ap}
use Rattle.std.specs.Prelude.{nat_eq}
use Rattle.std.specs.HashSet.{contains}
use Rattle.indexmap.specs.IndexMap.{get}
use Rattle.nz_base.specs.Key.{id_eq}
use Rattle.nz_audit.specs.Sources.{source_delivered}
use Rattle.nz_audit.proofs.ReadingTakes.{on_three, no_proxy, proxy_stays, proxy_takes_it, proxy_ignores, event_source}
use Rattle.nz_audit.proofs.sources.reading.act.Goals as goal

pub returns-in_default : goal.returns-in_default
returns-in_default c = λ g J world is t h q.
    proxy_stays g (contains id_eq c.args.wanted.now) q c.args.next.now J _ (no_proxy c.args.next.now.actor q c.in_default.not-Proxy) (h q)

pub returns-then-is_other_request : goal.returns-then-is_other_request
returns-then-is_other_request c = λ g J world is t h k.
    let q = c.in-Proxy.number in
    let notes = get nat_eq c.args.proxies.now in
    proxy_ignores g (contains id_eq c.args.wanted.now) k q c.args.next.now J c.args.sendings.now.kept.entries (notes k) (notes q) world c.in-Proxy.is t
    (λ same. ap notes (sym same)) (c.is_other_request.ensures.down c.if-is_other_request.true)
    (c.is_other_request.ensures.known c.if-is_other_request.true) (h k)

pub returns : goal.returns
returns c = on_three c.proxy_takes.result (λ others down known g J world is t h k.
    let q = c.in-Proxy.number in
    let w = contains id_eq c.args.wanted.now in
    let old = get nat_eq c.args.proxies.now in
    let new = get nat_eq c.proxy_takes.new.proxies in
    let table = c.args.sendings.now.kept.entries in
    let source = source_delivered table c.args.next.now.event in
    proxy_takes_it g w k q c.args.cluster c.args.next.now J source c.is_empty-is_silent.result (old q) (new q) (old k) (new k) world c.in-Proxy.is is
    (event_source g w J table c.args.next.now.event t) (c.is_empty-is_silent.ensures.0)
    (λ same. (ap old (sym same), ap new (sym same))) (others k) down known (h k)) c.proxy_takes.ensures.others
    c.proxy_takes.ensures.down c.proxy_takes.ensures.known
