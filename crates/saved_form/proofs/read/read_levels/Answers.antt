use Rattle.std.proofs.Common.{◌≡◌, ℕ, ◌+◌, ◌-◌, ◌<◌, List, drop, get_or, set, replicate, ap, sym, inl, inr, ◌∙◌, arith, get_or-set_same, get_or-set_other}
use Rattle.std.proofs.lemmas.Bool.{cases_eq}
use Rattle.std.proofs.lemmas.List.{length-set, drop-set-lt, drop-drop, drop-replicate}
use Rattle.saved_form.specs.Reading.{ReadsLevels, four_in, level_place}
use Rattle.saved_form.proofs.read.read_levels.Goals as goal

one_level_more : (bytes levels : List ℕ) (k x : ℕ) → k < 33 → x ≡ four_in bytes (level_place k) → ReadsLevels k bytes levels → ReadsLevels (k + 1) bytes (set levels k x)
one_level_more bytes levels k x lt is has = record {
  long = length-set levels k x ∙ has.long;
  each = λ j below. elim (cases_eq j k) [
    | inl same ↦ ap (λ n. get_or (set levels k x) n 0) same ∙ get_or-set_same levels k x 0 (omega (arith, has.long)) ∙ is ∙ ap (λ n. four_in bytes (level_place n)) (sym same)
    | inr other ↦ get_or-set_other levels k j x 0 other ∙ has.each j (omega arith)
  ];
  behind =
      drop-set-lt (k + 1) levels k x (omega arith) ∙ sym (drop-drop 1 k levels) ∙ ap (drop 1) has.behind
      ∙ drop-replicate 1 (33 - k) 0 ∙ (let e : 33 - k - 1 ≡ 33 - (k + 1) = omega arith in ap (λ n. replicate {A = ℕ} n 0) e);
}

pub loop-k-preserved : goal.loop-k-preserved
loop-k-preserved c = one_level_more c.args.bytes.now c.loop-k.levels c.loop-k.k c.four_at.result (omega arith) (c.four_at.ensures ∙ ap (four_in c.args.bytes.now) c.place_of.ensures) c.loop-k.invariant
