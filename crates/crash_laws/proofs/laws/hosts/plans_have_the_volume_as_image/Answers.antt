use Rattle.crash_laws.proofs.PlanSteps.{image_is_present, logged_after, bodies_after, revokes_after}
use Rattle.crash_laws.proofs.CommittingSteps.{committing_at_plan}
use Rattle.crash_laws.proofs.HostSteps.{plan_step}
use Rattle.crash_laws.proofs.laws.hosts.plans_have_the_volume_as_image.Goals as goal

pub returns : goal.returns
returns c = record {
  image = λ g h s host n b trees order facts plan closed metadata. image_is_present trees order facts plan closed b metadata;
  logged = λ g h s host n b trees order facts plan closed read. logged_after trees order facts plan closed b read;
  bodies = λ g h s host n b x trees order facts plan closed set. bodies_after trees order facts plan closed b x set;
  revokes = λ g h s host n b trees order facts plan closed i reserved. revokes_after trees order facts plan closed b i reserved;
  pages = λ g h s host n trees order facts plan closed. committing_at_plan trees order facts plan closed;
  facts = λ g h s host n trees order facts plan closed. plan_step trees order facts plan closed;
}
