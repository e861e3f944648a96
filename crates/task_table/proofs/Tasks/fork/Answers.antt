-- The parts are written one after another and agree again only at the end: the drawn key is the one made room for, in no part before
use Rattle.std.proofs.Common.{◌≡◌, ◌+◌, ℕ, [], None, Some, true, false, is_some, if◌then◌else◌, refl, sym, ap, subst, arith, ◌∙◌}
use Rattle.std.proofs.lemmas.List.Sums.{count_by-le-length}
use Rattle.std.specs.Option.{option_map_or}
use Rattle.std.specs.Prelude.{slice_set, slice_index_or}
use Rattle.pids_charge.specs.Charges.{Home, stands}
use Rattle.pid_types.specs.declared.call.Kind.TheVariants.{Group, Session}
use Rattle.pid_numbers.specs.Numbering.{identifier_at, namespace_at, path_at, is_used}
use Rattle.task_tree.specs.Tree.{task_at}
use Rattle.task_table.specs.Store.{Store, is_used_at}
use Rattle.task_table.specs.Residents.{live_home}
use Rattle.task_table.proofs.LookUps.{none_some}
use Rattle.task_table.proofs.Less as less
use Rattle.task_table.proofs.Groups as groups
use Rattle.task_table.proofs.Changes as changes
use Rattle.task_table.proofs.Births as births
use Rattle.task_table.proofs.Housed as housed
use Rattle.task_table.proofs.Threaded as threads
use Rattle.task_table.proofs.Tasks.fork.Goals as goal

pub settle-requires-clause-from : goal.settle-requires-clause-from
settle-requires-clause-from c p e =
    let same = rw (← c.self.view_is) at c.make_room.ensures.same in
    let there : is_some (task_at c.self.inside.tree p) ≡ true = ap is_some (same.tasks p) ∙ c.requires.from p e in
    (c.self.invariant.agree.members p ∙ there, changes.in_range c.self.inside.tree.tasks p there)

pub settle-requires-clause-all : goal.settle-requires-clause-all
settle-requires-clause-all c =
    let all = c.self.invariant.agree.all in
    omega (arith, all, count_by-le-length is_some c.self.inside.tree.tasks, c.laws-3.ensures.few, count_by-le-length is_some c.self.inside.threads.threads, c.laws-5.ensures.few)

pub settle-requires-clause-named : goal.settle-requires-clause-named
settle-requires-clause-named c k m is =
    let old : Store = record { numbering = c.self.inside.numbers; tree = c.self.inside.tree; members = c.self.inside.members; charges = c.self.inside.controls; threads = c.self.inside.threads } in
    let group = threads.used-as c.self.inside.numbers Group m.group (groups.group_used old c.self.invariant.agree k m is) in
    let session = threads.used-as c.self.inside.numbers Session m.session (groups.session_used old c.self.invariant.agree k m is) in
    let still = threads.used-beside c.self.inside.numbers c.draw.new.self c.in_ok-draw.field-0 c.in_ok-draw.ensures.fresh c.in_ok-draw.ensures.others in
    (still m.group group, still m.session session)

pub settle-requires-clause-own : goal.settle-requires-clause-own
settle-requires-clause-own c =
    let key : c.in_ok-draw.field-0 ≡ c.in_ok-key.key = c.in_ok-draw.ensures.key ∙ ap (λ (s : Store). s.numbering.next) c.self.view_is ∙ sym c.in_ok-key.ensures.key in
    subst (λ (k : ℕ). is_used_at c.draw.new.self k ≡ true) key (ap (λ o. option_map_or is_used o false) c.in_ok-draw.ensures.named)

pub settle-requires-clause-free : goal.settle-requires-clause-free
settle-requires-clause-free c k e =
    let old : Store = record { numbering = c.self.inside.numbers; tree = c.self.inside.tree; members = c.self.inside.members; charges = c.self.inside.controls; threads = c.self.inside.threads } in
    let key : c.in_ok-draw.field-0 ≡ c.in_ok-key.key = c.in_ok-draw.ensures.key ∙ ap (λ (s : Store). s.numbering.next) c.self.view_is ∙ sym c.in_ok-key.ensures.key in
    let m = groups.in_group c.self.inside.members k c.in_ok-key.key e in
    let used = less.used c.self.inside.numbers Group m.0.group (groups.group_used old c.self.invariant.agree k m.0 m.1) in
    let at : identifier_at c.self.inside.numbers c.in_ok-draw.field-0 ≡ Some used.0 = ap (identifier_at c.self.inside.numbers) (key ∙ sym m.2) ∙ used.1 in
    absurd (none_some (sym c.in_ok-draw.ensures.fresh ∙ at))

pub settle-requires-clause-few : goal.settle-requires-clause-few
settle-requires-clause-few c k i =
    let old : Store = record { numbering = c.self.inside.numbers; tree = c.self.inside.tree; members = c.self.inside.members; charges = c.self.inside.controls; threads = c.self.inside.threads } in
    births.drawn-few c.self.inside.numbers c.draw.new.self c.in_ok-draw.field-0 c.args.space c.args.numbers.now c.in_ok-draw.ensures.fresh c.in_ok-draw.ensures.named c.in_ok-draw.ensures.others
    (groups.few_uses old c.self.invariant.agree c.laws-4.ensures.few) k i

pub returns-clause-namespaces : goal.returns-clause-namespaces
returns-clause-namespaces c = grind arith

pub invariant_of-self-2 : goal.invariant_of-self-2
invariant_of-self-2 c = record {
  agree =
      let old : Store = record { numbering = c.self.inside.numbers; tree = c.self.inside.tree; members = c.self.inside.members; charges = c.self.inside.controls; threads = c.self.inside.threads } in
      let new : Store = record { numbering = c.settle.new.numbers; tree = c.settle.new.tree; members = c.settle.new.members; charges = c.settle.new.controls; threads = c.self.inside.threads } in
      let same = rw (← c.self.view_is) at c.make_room.ensures.same in
      let w = c.self.invariant.agree in
      let key : c.in_ok-draw.field-0 ≡ c.in_ok-key.key = c.in_ok-draw.ensures.key ∙ ap (λ (s : Store). s.numbering.next) c.self.view_is ∙ sym c.in_ok-key.ensures.key in
      let fresh : identifier_at c.self.inside.numbers c.in_ok-key.key ≡ None = subst (λ (k : ℕ). identifier_at c.self.inside.numbers k ≡ None) key c.in_ok-draw.ensures.fresh in
      let vacant = births.no_task old w c.in_ok-key.key fresh in
      let bare_drawn = births.drawn-bare c.self.inside.numbers c.draw.new.self c.in_ok-draw.field-0 c.in_ok-draw.ensures.others in
      births.born old new w c.draw.new.self c.in_ok-key.key c.args.from c.args.task vacant.0 vacant.1
      (let r = rw (← c.self.view_is) at c.in_ok-key.ensures.tasks in r) (let r = rw (← c.self.view_is) at c.in_ok-key.ensures.members in r) c.requires.live
      (λ p e. w.members p ∙ ap is_some (same.tasks p) ∙ c.requires.from p e)
      (subst (λ (j : ℕ). births.OneMore c.self.inside.numbers c.draw.new.self j) key
      (births.drawn-uses c.self.inside.numbers c.draw.new.self c.in_ok-draw.field-0 c.args.space c.args.numbers.now c.in_ok-draw.ensures.fresh c.in_ok-draw.ensures.named c.in_ok-draw.ensures.others))
      c.settle.ensures.uses c.settle.ensures.tasks c.settle.ensures.members refl c.settle.ensures.charged
      (ap (λ v. stands v c.args.task.home) same.charges ∙ c.requires.home) c.settle.ensures.count
      (births.ranks-born c.self.inside.numbers c.settle.new.numbers c.self.inside.tree c.settle.new.tree c.in_ok-key.key fresh
      (λ j differs. c.settle.ensures.bare j ∙ bare_drawn j (λ e. differs (e ∙ key)))
      (λ p long. ap (λ l. option_map_or (λ t. t.path) (slice_index_or l p None) []) c.settle.ensures.namespaces ∙ ap (λ o. option_map_or (λ t. t.path) o []) (c.in_ok-draw.ensures.namespaces p) ∙ births.path_moved (path_at c.self.inside.numbers c.args.space) c.args.numbers.now p (namespace_at c.self.inside.numbers p))
      c.laws-2.ensures.full (λ k. ap (λ l. slice_index_or l k None) c.settle.ensures.ranks)
      (λ k p r e. births.ranked-there old w c.laws-3.ensures.waiting k p r e
      (births.parent_task c.args.self.now old same c.requires.parents)) w.ranks);
  threaded =
      threads.still c.self.inside.numbers c.settle.new.numbers c.self.inside.threads c.self.invariant.threaded
      (threads.both c.self.inside.numbers c.draw.new.self c.settle.new.numbers
      (threads.drawn c.self.inside.numbers c.draw.new.self c.in_ok-draw.field-0 _ c.in_ok-draw.ensures.fresh c.in_ok-draw.ensures.named refl c.in_ok-draw.ensures.others) c.settle.ensures.threads);
  housed =
      let same = rw (← c.self.view_is) at c.make_room.ensures.same in
      housed.changed c.self.inside.controls c.settle.new.controls c.self.inside.tree.tasks c.settle.new.tree.tasks c.self.inside.residents c.settle.new.residents c.self.invariant.housed c.in_ok-key.key (Some c.args.task) c.settle.ensures.tasks
      (let r = rw (← c.self.view_is) at c.in_ok-key.ensures.tasks in r)
      (c.settle.ensures.residents ∙ ap (λ b. slice_set c.self.inside.residents c.in_ok-key.key (if b then Some c.args.task.home else None)) (sym c.requires.live))
      (housed.less-mapped c.self.inside.controls c.settle.new.controls c.args.task.home (λ (h : Home). record h { live = h.live + 1 }) (λ h e. e) c.settle.ensures.charged);
}

pub settle-requires-clause-vacant : goal.settle-requires-clause-vacant
settle-requires-clause-vacant c = grind arith

pub settle-requires-clause-within : goal.settle-requires-clause-within
settle-requires-clause-within c =
    let same = rw (← c.self.view_is) at c.make_room.ensures.same in
    let room = rw (← c.self.view_is) at c.in_ok-key.ensures.tasks in
    let rooms = c.self.invariant.housed.within in
    (omega (arith, room, rooms), c.self.invariant.housed.controls c.args.task.home (ap (λ v. stands v c.args.task.home) same.charges ∙ c.requires.home))

pub settle-requires-clause-nowhere : goal.settle-requires-clause-nowhere
settle-requires-clause-nowhere c =
    let old : Store = record { numbering = c.self.inside.numbers; tree = c.self.inside.tree; members = c.self.inside.members; charges = c.self.inside.controls; threads = c.self.inside.threads } in
    let key : c.in_ok-draw.field-0 ≡ c.in_ok-key.key = c.in_ok-draw.ensures.key ∙ ap (λ (s : Store). s.numbering.next) c.self.view_is ∙ sym c.in_ok-key.ensures.key in
    let fresh : identifier_at c.self.inside.numbers c.in_ok-key.key ≡ None = subst (λ (k : ℕ). identifier_at c.self.inside.numbers k ≡ None) key c.in_ok-draw.ensures.fresh in
    c.self.invariant.housed.same c.in_ok-key.key ∙ ap live_home (births.no_task old c.self.invariant.agree c.in_ok-key.key fresh).0

pub settle-requires-clause-room : goal.settle-requires-clause-room
settle-requires-clause-room c = grind arith
