use Rattle.std.proofs.Common.{◌≡◌, ◌+◌, ◌-◌, ◌^◌, ◌<◌}
use Rattle.wire.specs.Number.{number_at}
use Rattle.wire.specs.declared.settings.ByteOrder.TheVariants.{BigEndian}
use Rattle.wire.proofs.number.from_be_bytes.Given as goal

abbrev pub invariant-loop-x : goal.invariant-loop-x
invariant-loop-x l = record {
  reads : number_at BigEndian l.v l.s (l.pos + l.x-index) (l.width - l.x-index) ≡ number_at BigEndian 0 l.s l.pos l.width;
  below : l.v < 256 ^ l.x-index;
}
