-- What is kept of a device's record.
use Rattle.std.specs.Prelude.{List, [], ◌∷◌}
use Rattle.order_model.specs.declared.history.DeviceRecord.{DeviceRecord}

-- that of a device that did nothing, for a list that has none
abbrev pub no_record : DeviceRecord
no_record = record {
  took = record { items = []; room = 0 };
  moved = record { items = []; room = 0 };
  sent = record { items = []; room = 0 };
  steps = 0;
}

-- the first of these records
abbrev pub first_record : List DeviceRecord → DeviceRecord
first_record [] = no_record
first_record (r ∷ rs) = r
