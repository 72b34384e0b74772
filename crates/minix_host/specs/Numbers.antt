-- Numbers of calls.
unfoldable pub use Rattle.volume_steps.specs.Numbers.{next_birth}
pub use Rattle.volume_steps.specs.Numbers.{number_in}
