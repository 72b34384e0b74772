use Rattle.minix_tables.specs.directories.laws.Led.{led_here, led_places, led_names, led_free, led_once, led_length, led_count}
use Rattle.minix_tables.proofs.directories.laws.led_names_stay.Goals as goal

pub returns : goal.returns
returns c = record { here = led_here; places = led_places; names = led_names; free = led_free; once = led_once; length = led_length; counted = led_count }
