use Rattle.log_json.proofs.Common.{◌∙◌, ap, flat_map, on_ok_weaker, array_piece, depth_piece, OnOk, ◌≡◌, ◌++◌, Option, sym, subst, LogHeaps, heaps_piece_if}
use Rattle.log_json.proofs.Parts.{five_second}
use Rattle.log_json.proofs.heaps.add_heaps.Goals as goal

pub returns : goal.returns
returns c =
    subst (λ (heaps : Option LogHeaps). OnOk c.add-2.result (c.add-2.new.text.items ≡ c.args.text.now.items ++ heaps_piece_if heaps)) (sym c.in-Some.is)
    (on_ok_weaker c.add-2.result
    (λ e. five_second c.args.text.now.items _ _ _ _ _ _ _ _ _ _ _ c.in_ok-add.ensures c.in_ok-add_array.ensures c.in_ok-add_number.ensures c.in_ok-add_number-2.ensures e
    (ap array_piece (c.as_slice-2.ensures.value ∙ c.in_ok-further.ensures ∙ ap (flat_map depth_piece) c.as_slice.ensures)))
    c.add-2.ensures)
