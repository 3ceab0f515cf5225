use Rattle.log_report.proofs.Common.{◌∙◌, name_of}
use Rattle.log_report.proofs.Along.{locations_next}
use Rattle.log_report.proofs.locations.add_locations.Goals as goal

pub loop-location-preserved : goal.loop-location-preserved
loop-location-preserved c =
    locations_next (name_of c.args.names.now) c.args.race c.loop-location.location c.args.race.end c.loop-location.text.items c.add_location.new.text.items c.loop-location-test.true c.in_ok-add_location.ensures
    ∙ c.loop-location.invariant
