pub mod Layers
pub mod Drawn
pub mod thin_layer
pub mod body_layer
pub mod grid_layer
