-- Requests as lines say them.
use Rattle.blk_base.specs.Block.{filled}
use Rattle.order_model.specs.declared.request.Kind.{Kind}
use Rattle.order_model.specs.declared.request.Kind.TheVariants as kinds
use Rattle.order_model.specs.declared.request.Request.{Request}
use Rattle.script_grammar.specs.declared.script.Asked.{Asked}
use Rattle.script_grammar.specs.declared.script.Asked.TheVariants as asked
use Rattle.script_grammar.specs.declared.script.Row.{Row}

-- all bytes of a put are its value
abbrev pub kind_of : Asked → Kind
kind_of (asked.Put block value) = kinds.Put block (filled value)
kind_of asked.Flush = kinds.Flush

abbrev pub request_of : Row → Request
request_of r = record { id = r.id; kind = kind_of r.asked; ordered = r.ordered; barrier = r.barrier }
