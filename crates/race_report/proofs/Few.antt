-- Objects have few fields if the limit has 32 bits.
use Rattle.race_report.proofs.Common.{◌<◌, ◌≤◌, ◌^◌, length, max, sym, subst, arith, MachineState, MachineValue, IsOfRun, SizesIn, SizesAreBounded, FieldsAreIndexable}

few_in : (m : MachineState) → SizesIn m → m.field_limit < 2 ^ 32 → FieldsAreIndexable m.store
few_in m sizes lt n o e =
    let r = sizes.objects n o e in
    let most : max m.field_limit 16 < 2 ^ 32 = grind (arith, lt) in
    let refs : length o.refs ≤ max m.field_limit 16 = r.refs in
    let ints : length o.ints ≤ max m.field_limit 16 = r.ints in
    (omega (arith, most, refs), omega (arith, most, ints))

pub reached_few : SizesAreBounded → (g : MachineValue) → IsOfRun g → g.state.field_limit < 2 ^ 32 → FieldsAreIndexable g.state.store
reached_few law g r lt = few_in g.state (subst SizesIn (sym r.2) (law g.program g.state.field_limit r.0)) lt
