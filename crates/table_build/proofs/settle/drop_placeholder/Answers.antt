use Rattle.std.proofs.Common.{◌≡◌, ◌≢◌, inl, inr, ℕ, true, Some, ap, sym, subst, ◌∙◌, option_map, true≢false}
use Rattle.std.proofs.lemmas.Bool.{cases_eq}
use Rattle.task_tree.specs.Tree.{task_at, parent_of}
use Rattle.task_table.specs.Store.{HasNoThreads}
use Rattle.task_table.specs.View.{row_of, row_with}
use Rattle.task_table.proofs.Gone as left
use Rattle.task_table.proofs.Gone.{IsGone}
use Rattle.table_build.specs.Lines.{is_held}
use Rattle.table_build.proofs.Moves.{spaces-stay, standing-less}
use Rattle.table_build.proofs.Places.{none_some}
use Rattle.table_build.proofs.settle.drop_placeholder.Goals as goal

pub remove-requires-clause-stays : goal.remove-requires-clause-stays
remove-requires-clause-stays c = c.requires.single.stays c.args.key

pub returns : goal.returns
returns c =
    let s = c.args.store.now in
    let t = c.remove.new.self in
    let r = c.remove.ensures in
    let held : is_held c.args.placed.now c.args.key ≡ true = sym c.is_placeholder.ensures ∙ c.if-not-is_placeholder.false in
    let at : task_at c.args.store.now.tree c.args.key ≡ Some c.in-Some.task = ap (λ x. task_at x c.args.key) (sym c.tree.ensures) ∙ sym c.task.ensures ∙ c.in-Some.is in
    let alone : (j : ℕ) → parent_of c.args.store.now.tree j ≢ Some c.args.key = (λ j e. true≢false (sym held ∙ c.requires.real j c.args.key e)) in
    let g : IsGone c.args.store.now c.remove.new.self c.args.key c.in-Some.task =
    record { tasks = r.tasks; parent = r.parent; parents = r.parents; members = r.members; home = r.home; numbers = r.numbers } in
    let gone = ap (option_map (row_of t c.args.key)) (left.gone s t c.laws.ensures c.laws-2.ensures c.requires.kin c.args.key c.in-Some.task at alone g) in
    let others = left.row_left s t c.laws.ensures c.laws-2.ensures c.requires.kin c.args.key c.in-Some.task at alone g in
    record {
      keeps = record {
        settled = record {
          kin = left.parents-left s t c.laws.ensures c.laws-2.ensures c.requires.kin c.args.key c.in-Some.task at alone g;
          standing = standing-less s.numbering t.numbering c.laws.ensures.numbering c.requires.standing r.numbers;
          single = subst HasNoThreads (sym r.threads) c.requires.single;
          real = λ k q e. elim (cases_eq k c.args.key) [
            | inl same ↦ absurd (none_some (sym r.parent ∙ ap (parent_of t.tree) (sym same) ∙ e))
            | inr not ↦ c.requires.real k q (sym (r.parents k not) ∙ e)
          ];
        };
        lines = record {
          forth = λ k row line.
              let not : k ≢ c.args.key = (λ same. true≢false (sym held ∙ ap (is_held c.args.placed.now) (sym same) ∙ line.real)) in
              record { shown = others k not ∙ line.shown; real = line.real };
          back = λ k row line.
              let not : k ≢ c.args.key = (λ same. true≢false (sym held ∙ ap (is_held c.args.placed.now) (sym same) ∙ line.real)) in
              record { shown = sym (others k not) ∙ line.shown; real = line.real };
        };
        places = record { spaces = spaces-stay s.numbering t.numbering c.laws.ensures.numbering c.requires.standing r.numbers; controls = r.home.controls };
      };
      gone = λ h. gone;
      threads = r.threads;
      stays = λ k none. elim (cases_eq k c.args.key) [
        | inl same ↦ ap (row_with t) same ∙ gone
        | inr not ↦ others k not ∙ none
      ];
    }
