-- `records::put::put_field` meets its contract: four tests, then the head, and the bytes behind it. Assumes nothing.
use Prim.Native.Nat.{◌+◌, ◌-◌}
use mathlib.Core.Path.{◌≡◌}
use native.Mathlib.Omega.{arith}
use lib.ListN.{length}
use Rattle.records.proofs.Laws.Put.{mid-placed, field-left, field_put, put-field-full, put-field-long}
use Rattle.records.proofs.put.put_field.Goals as goal

pub returns-then-buf-at : goal.returns-then-buf-at
returns-then-buf-at c = field-left _ _ _ _ (put-field-full _ _ _ (omega arith))

pub returns-then-room-lt3 : goal.returns-then-room-lt3
returns-then-room-lt3 c = field-left _ _ _ _ (put-field-full _ _ _ (omega arith))

pub returns-then-room-len : goal.returns-then-room-len
returns-then-room-len c = field-left _ _ _ _ (put-field-full _ _ _ (omega arith))

pub returns-then-len-gt65535 : goal.returns-then-len-gt65535
returns-then-len-gt65535 c = field-left _ _ _ _ (put-field-long _ _ _ c.if-len-gt65535.true)

pub returns : goal.returns
returns c =
    let e : c.put_head-a.result + length c.args.bytes.now - c.put_head-a.result ≡ length c.args.bytes.now = omega arith in
    field_put _ _ _ _ _ _ _
    (omega arith) (omega arith) (omega arith) c.put_head-a.ensures.0 c.put_head-a.ensures.1
    (mid-placed _ _ _ c.args.bytes.now c.copy_from_slice.ensures.after e)
