use Rattle.page_data.proofs.Common.{codes, on_ok_weaker, field_limit}
use Rattle.page_data.specs.Run.{settings_text, start_text, settings_and_start}
use Rattle.page_data.proofs.Pieces.{four}
use Rattle.page_data.proofs.run.add_settings_and_start.Goals as goal

pub returns : goal.returns
unfolding settings_and_start
returns c =
    on_ok_weaker c.add_start.result
    (four c.args.text.now.items (codes "],\n\"settings\":") (settings_text c.args.settings) (codes ",\n\"entries\":[\n") (start_text c.args.program.now (field_limit c.args.settings.version))
    c.add_bytes.new.text.items c.add_settings.new.text.items c.add_bytes-2.new.text.items c.add_start.new.text.items
    c.in_ok-add_bytes.ensures c.in_ok-add_settings.ensures c.in_ok-add_bytes-2.ensures)
    (c.add_start.ensures (field_limit c.args.settings.version) c.requires)
