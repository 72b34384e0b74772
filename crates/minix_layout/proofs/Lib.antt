-- Lemmas on the layout.
mod Middles
