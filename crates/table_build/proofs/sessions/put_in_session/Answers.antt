use Rattle.std.proofs.Common.{refl, ap, sym, subst, ◌∙◌, ◌++◌, ◌∷◌, [], arith}
use Rattle.pid_types.specs.declared.plain.Name.{Name}
use Rattle.table_build.specs.Lines.{HasFew, SetsLine}
use Rattle.table_build.specs.Stages.{SetsRow, as_begun, seated}
use Rattle.table_build.proofs.Steps.{bearers-both, bears-kept, places-both, recent-kept}
use Rattle.table_build.proofs.LineSteps.{line-set, same-both, same-held, same-set, set-same}
use Rattle.pid_types.specs.Membership.{IsIn}
use Rattle.pid_types.specs.State.{State}
use Rattle.model_laws.proofs.Names.{group_in_use, session_in_use}
use Rattle.task_table.proofs.Results.{if_err}
use Rattle.table_build.specs.Lines.{is_held}
use Rattle.table_build.specs.Parts.{IsPart}
use Rattle.table_build.proofs.PartSteps.{part-entered, part-placeholder, part-seats}
use Rattle.table_build.specs.declared.fault.BuildFault.TheVariants.{NoMemory}
use Rattle.table_build.proofs.sessions.put_in_session.Goals as goal

entered : (c : goal.In_ok-add_group) → SetsRow c.bearer.new.store c.enter_session.new.store c.args.key (seated c.args.row.now)
entered c =
    let line = c.in_ok-session.ensures.put.lines.forth c.args.key (as_begun c.args.row.now) c.requires.begun in
    subst (λ (n : Name). SetsRow c.bearer.new.store c.enter_session.new.store c.args.key (record (seated c.args.row.now) { session = n })) c.in_ok-session.ensures.put.bears.named
    (c.in_ok-enter_session.ensures.entered (as_begun c.args.row.now) line.shown)

went : (c : goal.In_ok-add_group) → SetsLine c.args.store.now c.seat_placeholder.new.store c.args.placed.now c.add_group.new.self c.args.key (seated c.args.row.now)
went c =
    let line = c.in_ok-session.ensures.put.lines.forth c.args.key (as_begun c.args.row.now) c.requires.begun in
    same-set c.args.store.now c.bearer.new.store c.seat_placeholder.new.store c.args.placed.now c.bearer.new.placed c.add_group.new.self c.args.key (seated c.args.row.now) c.in_ok-session.ensures.put.lines
    (set-same c.bearer.new.store c.enter_session.new.store c.seat_placeholder.new.store c.bearer.new.placed c.bearer.new.placed c.add_group.new.self c.args.key (seated c.args.row.now)
    (line-set c.bearer.new.store c.enter_session.new.store c.bearer.new.placed c.args.key (seated c.args.row.now) (entered c) line.real)
    (same-both c.enter_session.new.store c.bearer-2.new.store c.seat_placeholder.new.store c.bearer.new.placed c.bearer-2.new.placed c.add_group.new.self c.in_ok-group.ensures.put.lines
    (same-both c.bearer-2.new.store c.seat_placeholder.new.store c.seat_placeholder.new.store c.bearer-2.new.placed c.bearer-2.new.placed c.add_group.new.self c.in_ok-seat_placeholder.ensures.lines
    (same-held c.seat_placeholder.new.store c.bearer-2.new.placed c.add_group.new.self c.in_ok-add_group.ensures.placeholders))))

part-in : (c : goal.In_ok-add_group) (text : State) → IsPart c.args.store.now text → IsIn c.args.row.now text.rows → IsPart c.seat_placeholder.new.store text
part-in c text part inside =
    let a = c.in_ok-session.ensures in
    let b = c.in_ok-enter_session.ensures in
    let d = c.in_ok-group.ensures in
    let e = c.in_ok-seat_placeholder.ensures in
    let line = a.put.lines.forth c.args.key (as_begun c.args.row.now) c.requires.begun in
    let entered = part-entered c.args.store.now c.bearer.new.store c.enter_session.new.store text c.args.placed.now c.bearer.new.placed c.args.key c.args.row.now _ part inside a.put.rows a.put.keeps.places (b.entered (as_begun c.args.row.now) line.shown) refl b.keeps.places in
    let second = part-placeholder c.enter_session.new.store c.bearer-2.new.store text d.put.keeps.places entered c.bearer.new.placed c.bearer-2.new.placed c.args.row.now.group d.put.rows (group_in_use text.rows c.args.row.now inside) in
    part-seats c.bearer-2.new.store c.seat_placeholder.new.store text e.keeps.places second c.bearer-2.new.placed c.in_ok-group.group _ e.seat

pub returns : goal.returns
returns c =
    let a = c.in_ok-session.ensures in
    let b = c.in_ok-enter_session.ensures in
    let d = c.in_ok-group.ensures in
    let e = c.in_ok-seat_placeholder.ensures in
    let f = c.in_ok-add_group.ensures in
    let late = bearers-both c.enter_session.new.store c.bearer-2.new.store c.seat_placeholder.new.store d.put.keeps.names e.keeps.names in
    let later = bearers-both c.bearer.new.store c.enter_session.new.store c.seat_placeholder.new.store b.keeps.names late in
    let e-seat = e.seat in
    let session = (bears-kept c.bearer.new.store c.bearer-2.new.store c.in_ok-session.session c.args.row.now.session (bearers-both c.bearer.new.store c.enter_session.new.store c.bearer-2.new.store b.keeps.names d.put.keeps.names) a.put.bears).named in
    let moves = places-both c.enter_session.new.store c.bearer-2.new.store c.seat_placeholder.new.store d.put.keeps.places e.keeps.places in
    record {
      keeps = record {
        ungrouped = e.keeps.ungrouped;
        places = places-both c.args.store.now c.bearer.new.store c.seat_placeholder.new.store a.put.keeps.places
            (places-both c.bearer.new.store c.enter_session.new.store c.seat_placeholder.new.store b.keeps.places moves);
        names = bearers-both c.args.store.now c.bearer.new.store c.seat_placeholder.new.store a.put.keeps.names later;
      };
      recent = record {
        session = recent-kept c.bearer.new.store c.seat_placeholder.new.store c.bearer.new.last later a.recent;
        group = recent-kept c.bearer-2.new.store c.seat_placeholder.new.store c.bearer-2.new.last e.keeps.names d.recent;
      };
      set = went c;
      group = record {
        group = c.in_ok-group.group;
        bears = bears-kept c.bearer-2.new.store c.seat_placeholder.new.store c.in_ok-group.group c.args.row.now.group e.keeps.names d.put.bears;
        added = f.groups ∙ ap (λ v. v.items ++ c.in_ok-group.group ∷ []) (d.lists.groups ∙ a.lists.groups);
        few = λ few. subst (λ v. HasFew (record c.bearer-2.new.placed { placeholders = v })) (sym f.placeholders) (d.lists.few (a.lists.few few));
        keys = f.keys ∙ d.lists.keys ∙ a.lists.keys;
        kept = λ k r other another e.
            let x = a.put.rows.kept k r e in
            let y = d.put.rows.kept k r ((entered c).others k other ∙ x.0) in
            (e-seat.others k another ∙ y.0, ap (λ v. is_held (record c.bearer-2.new.placed { placeholders = v }) k) f.placeholders ∙ y.1 ∙ x.1);
        seat = λ held r e.
            e-seat.seat (ap (λ v. is_held (record c.bearer-2.new.placed { placeholders = v }) c.in_ok-group.group) (sym f.placeholders) ∙ held) r e ∙ session;
      };
      part = λ text part inside. part-in c text part inside;
      refused = tt;
    }

pub returns-in_err-session-clause-refused : goal.returns-in_err-session-clause-refused
returns-in_err-session-clause-refused c =
    if_err c.from_residual.result _ c.in_err-session.field-0.0 c.from_residual.ensures.1 (λ not text sound part inside.
    c.in_err-session.ensures.refused not text sound part (session_in_use text.rows c.args.row.now inside))

pub returns-in_err-group-clause-refused : goal.returns-in_err-group-clause-refused
returns-in_err-group-clause-refused c =
    if_err c.from_residual-in_err-group.result _ c.in_err-group.field-0.0 c.from_residual-in_err-group.ensures.1 (λ not text sound part inside.
    let a = c.in_ok-session.ensures in
    let b = c.in_ok-enter_session.ensures in
    let line = a.put.lines.forth c.args.key (as_begun c.args.row.now) c.requires.begun in
    let entered = part-entered c.args.store.now c.bearer.new.store c.enter_session.new.store text c.args.placed.now c.bearer.new.placed c.args.key c.args.row.now _ part inside a.put.rows a.put.keeps.places (b.entered (as_begun c.args.row.now) line.shown) refl b.keeps.places in
    c.in_err-group.ensures.refused not text sound entered (group_in_use text.rows c.args.row.now inside))

pub bearer-requires-2-clause-recent : goal.bearer-requires-2-clause-recent
bearer-requires-2-clause-recent c = grind arith

pub seat_placeholder-requires-clause-ungrouped : goal.seat_placeholder-requires-clause-ungrouped
seat_placeholder-requires-clause-ungrouped c = grind arith

pub returns-in_err-add_group-clause-refused : goal.returns-in_err-add_group-clause-refused
returns-in_err-add_group-clause-refused c = if_err c.from_residual-in_err-add_group.result _ NoMemory c.from_residual-in_err-add_group.ensures.1 (λ not. absurd (not refl))

pub seat_placeholder-requires-clause-there : goal.seat_placeholder-requires-clause-there
seat_placeholder-requires-clause-there c = grind arith
