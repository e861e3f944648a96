-- The parts of a text, one behind the other.
use Rattle.std.proofs.Common.{◌≡◌, ℕ, List, ◌++◌, map, ap, ◌∙◌, append_assoc}
use Rattle.std.specs.List.{flat_map}
use Rattle.pid_types.specs.declared.plain.Space.{Space}
use Rattle.pid_types.specs.declared.plain.ControlRow.{ControlRow}
use Rattle.pid_types.specs.Shown.{with_count}
use Rattle.pid_types.specs.State.{State}
use Rattle.pid_script.specs.Lists.{space_line}
use Rattle.table_text.specs.Texts.{task_text_line, control_text_line, head_line, dump_text, control_shown}
use Rattle.table_text.proofs.Told.{uncounted}

pub told : (stamp : ℕ) (s : State) (old head tasks spaces all : List ℕ) (listed : List Space) (shown : List ControlRow)
    → head ≡ old ++ head_line s.pid_max stamp
    → tasks ≡ head ++ flat_map task_text_line s.rows
    → listed ≡ s.spaces
    → spaces ≡ tasks ++ flat_map space_line listed
    → shown ≡ map (with_count s) s.controls
    → all ≡ spaces ++ flat_map control_text_line (map control_shown shown)
    → all ≡ old ++ dump_text stamp s
unfolding dump_text
told stamp s old head tasks spaces all listed shown p q l r c e =
    let controls = ap (map control_shown) c ∙ uncounted s s.controls in
    e
    ∙ ap (λ cs. spaces ++ flat_map control_text_line cs) controls
    ∙ ap (λ t. t ++ flat_map control_text_line s.controls) (r ∙ ap (λ ss. tasks ++ flat_map space_line ss) l)
    ∙ ap (λ t. (t ++ flat_map space_line s.spaces) ++ flat_map control_text_line s.controls) q
    ∙ ap (λ t. ((t ++ flat_map task_text_line s.rows) ++ flat_map space_line s.spaces) ++ flat_map control_text_line s.controls) p
    ∙ simp append_assoc
