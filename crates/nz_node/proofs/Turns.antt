-- What a node has done in a turn, and in several.
use Rattle.std.proofs.Common.{◌≡◌, ℕ, ◌+◌, List, [], ◌∷◌, ◌++◌, length, take, flat_map, Option, Some, None, refl, sym, ap, subst, ◌∙◌, append-nil}
use Rattle.std.specs.Prelude.{Result, Ok, Err, OnErr, IfSome}
use Rattle.std.specs.List.{AllByRecursion}
use Rattle.std.proofs.lemmas.List.{append_assoc}
use Rattle.std.proofs.lemmas.List.Concat.{flat_map-append}
use Rattle.std.proofs.Math.Seq.{take-append_seam, take-append-add}
use Rattle.nz_lane.specs.Streams.{ahead}
use Rattle.nz_edge.specs.Exposed.{Loses, Gains}
use Rattle.nz_edge.proofs.Exposed.{gains_in_turn}
use Rattle.nz_lane.specs.declared.item.Item.{Item}
use Rattle.nz_lane.specs.Items.{spelling, IsValidItem}
use Rattle.nz_machine.specs.declared.event.Event.{Event}
use Rattle.nz_machine.specs.rules.State.{Group}
use Rattle.nz_machine.specs.rules.Step.{Node, node_run}
use Rattle.nz_node.specs.Nodes.{event_of, with_event, events_of, frames_of, node_after, output, IsNext, BeganStep, TakesPrefix, Took, Began, Served}

-- ---- nothing lost and nothing gained

pub lose_none : (o : Option (List ℕ)) → Loses o o []
lose_none None = refl
lose_none (Some bytes) = refl

pub gain_none : (o : Option (List ℕ)) → Gains o o []
gain_none None = refl
gain_none (Some bytes) = ap Some (sym (append-nil bytes))

-- what is lost in two calls
pub loses_in_turn : (a b c : Option (List ℕ)) (xs ys : List ℕ) → Loses a b xs → Loses b c ys → Loses a c (xs ++ ys)
loses_in_turn a None None xs ys h k = h
loses_in_turn a None (Some rest) xs ys h k = absurd cc
loses_in_turn a (Some bytes) None xs ys h k = absurd cc
loses_in_turn a (Some bytes) (Some rest) xs ys h k =
    let same : bytes ≡ ys ++ rest = cc in
    h ∙ ap Some (ap (λ (zs : List ℕ). xs ++ zs) same ∙ sym (append_assoc xs ys rest))

pub on_err : {A E : Type 0} (r : Result A E) (X : Type 0) → X → OnErr r X
on_err (Ok a) X x = tt
on_err (Err e) X x = x

-- what came is what is next
pub next_of : (before after : Option (List ℕ)) (o : Option Event) (event : Event) → o ≡ Some event → IfSome o (IsNext before after) → IsNext before after event
next_of before after o event is h = subst (λ (o : Option Event). IfSome o (IsNext before after)) is h

-- ---- one item

one_output : (g : Group) (node : Node) (event : Event) (o : Option Event) → o ≡ Some event
    → output g node (with_event o []) ≡ frames_of (node_run g node event).1
one_output g node event o is = ap (λ (o : Option Event). output g node (with_event o [])) is ∙ append-nil (frames_of (node_run g node event).1)

one_after : (g : Group) (node : Node) (event : Event) (o : Option Event) → o ≡ Some event
    → node_after g node (with_event o []) ≡ (node_run g node event).0
one_after g node event o is = ap (λ (o : Option Event). node_after g node (with_event o [])) is

one_lost : (before after : Option (List ℕ)) (item : Item) → Loses before after (spelling item) → Loses before after (flat_map spelling (item ∷ []))
one_lost before after item h = subst (λ (xs : List ℕ). Loses before after xs) (sym (append-nil (spelling item))) h

pub took_one : (fits : Group → Type 0) (old new : Node) (event : Event) (before after written wrote : Option (List ℕ)) (next : IsNext before after event)
    → ((g : Group) → fits g → new ≡ (node_run g old event).0) → ((g : Group) → fits g → Gains written wrote (frames_of (node_run g old event).1))
    → Took fits old new before after written wrote (next.item ∷ [])
took_one fits old new event before after written wrote next node wrote_all = record {
  valid = (next.valid, tt);
  read = one_lost before after next.item next.taken;
  node = λ g h. node g h ∙ sym (one_after g old event (event_of next.item) next.event_is);
  wrote_all = λ g h.
      subst (λ (xs : List ℕ). Gains written wrote xs) (sym (one_output g old event (event_of next.item) next.event_is)) (wrote_all g h);
}

pub took_none : (fits : Group → Type 0) (node : Node) (before written : Option (List ℕ)) → Took fits node node before before written written []
took_none fits node before written = record {
  valid = tt;
  read = lose_none before;
  node = λ g h. refl;
  wrote_all = λ g h. gain_none written;
}

pub began_none : (fits : Group → Type 0) (old : Node) (before written : Option (List ℕ)) → Began fits old before written written
began_none fits old before written = record {
  taken = [];
  valid = tt;
  after = before;
  read = lose_none before;
  wrote_some = λ g h. record { count = 0; taken = gain_none written };
}

pub began_one : (fits : Group → Type 0) (old : Node) (event : Event) (before after written wrote : Option (List ℕ)) (next : IsNext before after event)
    → BeganStep fits old event written wrote → Began fits old before written wrote
began_one fits old event before after written wrote next step = record {
  taken = next.item ∷ [];
  valid = (next.valid, tt);
  after = after;
  read = one_lost before after next.item next.taken;
  wrote_some = λ g h.
      subst (λ (xs : List ℕ). TakesPrefix written wrote xs) (sym (one_output g old event (event_of next.item) next.event_is)) (step.wrote g h);
}

-- ---- several items

all_append : (xs ys : List Item) → AllByRecursion IsValidItem xs → AllByRecursion IsValidItem ys → AllByRecursion IsValidItem (xs ++ ys)
all_append [] ys h k = k
all_append (x ∷ xs) ys h k = (h.0, all_append xs ys h.1 k)

with_events : (o : Option Event) (xs ys : List Event) → with_event o (xs ++ ys) ≡ with_event o xs ++ ys
with_events None xs ys = refl
with_events (Some event) xs ys = refl

events_append : (xs ys : List Item) → events_of (xs ++ ys) ≡ events_of xs ++ events_of ys
events_append [] ys = refl
events_append (x ∷ xs) ys = ap (with_event (event_of x)) (events_append xs ys) ∙ with_events (event_of x) (events_of xs) (events_of ys)

after_append : (g : Group) (node : Node) (xs ys : List Event) → node_after g node (xs ++ ys) ≡ node_after g (node_after g node xs) ys
after_append g node [] ys = refl
after_append g node (x ∷ xs) ys = after_append g (node_run g node x).0 xs ys

output_append : (g : Group) (node : Node) (xs ys : List Event) → output g node (xs ++ ys) ≡ output g node xs ++ output g (node_after g node xs) ys
output_append g node [] ys = refl
output_append g node (x ∷ xs) ys =
    ap (λ (zs : List ℕ). frames_of (node_run g node x).1 ++ zs) (output_append g (node_run g node x).0 xs ys)
    ∙ sym (append_assoc (frames_of (node_run g node x).1) (output g (node_run g node x).0 xs) (output g (node_after g (node_run g node x).0 xs) ys))

-- what is written on some items, and then on others
output_items : (g : Group) (old mid : Node) (xs ys : List Item) → mid ≡ node_after g old (events_of xs)
    → output g old (events_of (xs ++ ys)) ≡ output g old (events_of xs) ++ output g mid (events_of ys)
output_items g old mid xs ys is =
    ap (output g old) (events_append xs ys) ∙ output_append g old (events_of xs) (events_of ys)
    ∙ ap (λ (n : Node). output g old (events_of xs) ++ output g n (events_of ys)) (sym is)

read_append : (a b c : Option (List ℕ)) (xs ys : List Item) → Loses a b (flat_map spelling xs) → Loses b c (flat_map spelling ys)
    → Loses a c (flat_map spelling (xs ++ ys))
read_append a b c xs ys h k =
    subst (λ (bytes : List ℕ). Loses a c bytes) (sym (flat_map-append spelling xs ys)) (loses_in_turn a b c (flat_map spelling xs) (flat_map spelling ys) h k)

pub took_then : (fits now : Group → Type 0) (old mid new : Node) (a b c written half wrote : Option (List ℕ)) (xs ys : List Item)
    → ((g : Group) → fits g → now g) → Took fits old mid a b written half xs → Took now mid new b c half wrote ys
    → Took fits old new a c written wrote (xs ++ ys)
took_then fits now old mid new a b c written half wrote xs ys still h k = record {
  valid = all_append xs ys h.valid k.valid;
  read = read_append a b c xs ys h.read k.read;
  node = λ g f.
      k.node g (still g f) ∙ ap (λ (n : Node). node_after g n (events_of ys)) (h.node g f) ∙ sym (after_append g old (events_of xs) (events_of ys))
      ∙ ap (node_after g old) (sym (events_append xs ys));
  wrote_all = λ g f.
      subst (λ (bytes : List ℕ). Gains written wrote bytes) (sym (output_items g old mid xs ys (h.node g f)))
      (gains_in_turn written half wrote (output g old (events_of xs)) (output g mid (events_of ys)) (h.wrote_all g f) (k.wrote_all g (still g f)));
}

prefix_then : (written half wrote : Option (List ℕ)) (xs ys : List ℕ) → Gains written half xs → TakesPrefix half wrote ys → TakesPrefix written wrote (xs ++ ys)
prefix_then written half wrote xs ys h k = record {
  count = length xs + k.count;
  taken =
      subst (λ (bytes : List ℕ). Gains written wrote bytes) (sym (take-append-add xs ys k.count))
      (gains_in_turn written half wrote xs (take k.count ys) h k.taken);
}

prefix_all : (written wrote : Option (List ℕ)) (xs : List ℕ) → Gains written wrote xs → TakesPrefix written wrote xs
prefix_all written wrote xs h = record {
  count = length xs;
  taken =
      subst (λ (bytes : List ℕ). Gains written wrote bytes) (sym (ap (take (length xs)) (sym (append-nil xs)) ∙ take-append_seam xs [])) h;
}

pub began_then : (fits now : Group → Type 0) (old mid : Node) (a b written half wrote : Option (List ℕ)) (xs : List Item)
    → ((g : Group) → fits g → now g) → Took fits old mid a b written half xs → Began now mid b half wrote → Began fits old a written wrote
began_then fits now old mid a b written half wrote xs still h k = record {
  taken = xs ++ k.taken;
  valid = all_append xs k.taken h.valid k.valid;
  after = k.after;
  read = read_append a b k.after xs k.taken h.read k.read;
  wrote_some = λ g f.
      subst (λ (bytes : List ℕ). TakesPrefix written wrote bytes) (sym (output_items g old mid xs k.taken (h.node g f)))
      (prefix_then written half wrote (output g old (events_of xs)) (output g mid (events_of k.taken)) (h.wrote_all g f) (k.wrote_some g (still g f)));
}

pub began_all : (fits : Group → Type 0) (old new : Node) (a b written wrote : Option (List ℕ)) (xs : List Item) → Took fits old new a b written wrote xs
    → Began fits old a written wrote
began_all fits old new a b written wrote xs h = record {
  taken = xs;
  valid = h.valid;
  after = b;
  read = h.read;
  wrote_some = λ g f. prefix_all written wrote (output g old (events_of xs)) (h.wrote_all g f);
}

-- ---- from the first byte to the last

pub begun : (fits : Group → Type 0) (node : Node) (left written : Option (List ℕ))
    → Took fits node node left (ahead (record { bytes = []; place = 0 }) left) written written []
begun fits node None written = took_none fits node None written
begun fits node (Some bytes) written = took_none fits node (Some bytes) written

all_read : (left before : Option (List ℕ)) (xs : List ℕ) → Loses left before xs → IfSome before (λ bytes. bytes ≡ []) → IfSome left (λ bytes. bytes ≡ xs)
all_read left None xs h e = subst (λ (o : Option (List ℕ)). IfSome o (λ bytes. bytes ≡ xs)) (sym h) tt
all_read left (Some rest) xs h e =
    subst (λ (o : Option (List ℕ)). IfSome o (λ bytes. bytes ≡ xs)) (sym h) (ap (λ (r : List ℕ). xs ++ r) e ∙ append-nil xs)

pub served : (fits now : Group → Type 0) (old mid new : Node) (left before written half wrote : Option (List ℕ)) (xs : List Item)
    → ((g : Group) → fits g → now g) → Took fits old mid left before written half xs → Took now mid new before before half wrote []
    → IfSome before (λ bytes. bytes ≡ []) → Served fits old new left written wrote
served fits now old mid new left before written half wrote xs still h k end =
    let t = took_then fits now old mid new left before before written half wrote xs [] still h k in
    record {
      taken = xs ++ [];
      valid = t.valid;
      read = all_read left before (flat_map spelling (xs ++ [])) t.read end;
      node = t.node;
      wrote_all = t.wrote_all;
    }
