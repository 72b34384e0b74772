pub mod MadeSessions
