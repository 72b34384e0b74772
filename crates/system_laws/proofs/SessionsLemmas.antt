-- Lemmas on sessions that keep volumes clean.
pub mod CleanReads
pub mod CleanHosts
pub mod CleanRuns
pub mod MadeClean
pub mod CutClean
pub mod ScriptClean
