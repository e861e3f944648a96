use Rattle.std.proofs.Common.{◌++◌, ◌∙◌, ap}
use Rattle.pid_commands.specs.Output.{works_text}
use Rattle.table_lines.specs.Listed.{list_of_state}
use Rattle.pid_commands.proofs.show.finished_text.Goals as goal

-- the lines of the workers, and then the list
pub returns-in-Ok : goal.returns-in-Ok
returns-in-Ok g c =
    let lines = works_text 0 c.args.works.items in
    let behind = ap (λ front. front ++ (lines ++ c.as_slice.result.now)) c.new-text.ensures.items in
    c.in-Ok.ensures ∙ behind ∙ ap (λ list. lines ++ list) (c.as_slice.ensures.value ∙ c.in_ok-list.ensures ∙ ap list_of_state c.present.ensures)
